-- The whole run: a finished table satisfies the invariant and is closed, and a contradiction leaves no valuation.
-- Main results: `run_answers`, `run_finished`, `run_stopped`, `run_contradicts_early`, `run_contradicts`, `run_count`. Assume nothing.
use mathlib.Core.Path.{◌≡◌, refl, sym, ap, ◌∙◌, subst}
use mathlib.Core.Logic.{◌⊎◌, inl, inr}
use mathlib.Core.List.Memᴰ
use mathlib.Core.List.{List, [], ◌∷◌, ◌++◌, append-nil, Memᴰ}
use Prim.Native.Nat.{ℕ, suc, ◌≤◌, ◌<◌}
use native.Mathlib.Omega.{arith}
use lib.ListN.{length, take, drop, length-append, take-append-drop}
use lib.Seq.{append_snoc, take_at}
use Rattle.answer.specs.declared.Answer.{Answer}
use Rattle.answer.specs.declared.Answer.TheVariants.{Contradictory}
use Rattle.fraction.specs.Exact.{ℚ}
use Rattle.fraction.specs.Made.{made, stopped, ◌>>=◌}
use Rattle.fraction.proofs.Answers.{Answers, if_made, answers_made, answers_stopped, answers_with, answers_bind, answers_because}
use Rattle.rules_problem.specs.declared.Term.{Term}
use Rattle.rules_problem.specs.Lookup.{kind_at}
use Rattle.rules_problem.specs.Problem.{Pair, Problem}
use Rattle.rules_run.specs.Merge.{State, Stop, contradiction, outside, refused_for, merge}
use Rattle.rules_run.specs.Close.{close}
use Rattle.rules_run.specs.Run.{Ranking, ends, assume, begin, run}
use Rattle.laws_invariant.specs.Rows.{EqualCells}
use Rattle.laws_invariant.specs.Invariant.{Shaped, SidesBelow, OneToOne, Strict, ValuesMeet, Equates, NoneMeets, is_unknown, count, Invariant, Completed, Stopped, Ended}
use Rattle.laws_invariant.proofs.Build.{build_invariant}
use Rattle.laws_invariant.proofs.Close.{close_answers, solved_at_most}
use Rattle.laws_invariant.proofs.Merge.{Merged, restated, merge_answers}
use Rattle.laws_invariant.proofs.Range.{built_ranged}

module _ (rank : ℕ → ℕ) (terms : List Term) (one-to-one : OneToOne rank) (shaped : Shaped terms) where
  module _ (done : List Pair) (pair : Pair) (below : (pair.left < length terms) × (pair.right < length terms)) (state : State) (inv : Invariant rank terms done done state) where
    -- The assumption is in force before it is merged,
    in_force : Invariant rank terms (done ++ pair ∷ []) done state
    unfolding ValuesMeet
    in_force = restated (λ v meets other member. meets other (Memᴰ.append_left (pair ∷ []) member)) inv.equal inv

    forced : Equates terms (done ++ pair ∷ []) pair.left pair.right
    unfolding Equates ValuesMeet
    forced v valued meets = meets pair (Memᴰ.append_right done (Memᴰ.head refl))

    -- and met after.
    now_met : (next : State) → Merged rank terms (done ++ pair ∷ []) done pair.left pair.right state next → Invariant rank terms (done ++ pair ∷ []) (done ++ pair ∷ []) next
    now_met next merged = restated (λ v meets. meets) (λ other member. by other (Memᴰ.append_cases done member)) merged.invariant
      where
        by : (other : Pair) → Memᴰ other done ⊎ Memᴰ other (pair ∷ []) → EqualCells next.table other.left other.right
        by other (inl before) = merged.invariant.equal other before
        by other (inr now) = subst (λ q. EqualCells next.table q.left q.right) (sym (Memᴰ.eq_of_singleton now)) merged.meets

    -- One assumption more: merged, then closed.
    step_answers : Answers (Completed rank terms (done ++ pair ∷ []) (done ++ pair ∷ [])) (Stopped terms (done ++ pair ∷ [])) (merge rank pair.left pair.right state >>= close rank terms)
    step_answers =
        answers_bind (merge_answers rank terms (done ++ pair ∷ []) done state pair.left pair.right one-to-one shaped.fits below.0 below.1 forced in_force)
        (λ next merged. close_answers rank terms (done ++ pair ∷ []) (done ++ pair ∷ []) one-to-one shaped next (now_met next merged))

  module _ (pairs : List Pair) where
    -- What a stop at a place means, with the assumptions up to that place in force.
    ends_ended : (place : ℕ) (inForce : List Pair) → inForce ≡ take place pairs → (stop : Stop) → Stopped terms inForce stop → Ended terms pairs (ends place stop)
    unfolding ends Stopped Ended
    ends_ended place inForce upto contradiction none = subst (NoneMeets terms) upto none
    ends_ended place inForce upto (outside number) range = range

    -- Build and the first closing.
    begin_answers : Answers (Completed rank terms [] []) (Ended terms pairs) (begin rank terms)
    unfolding begin Stopped
    begin_answers =
        answers_because (ends 0)
        (answers_bind (answers_because refused_for (answers_with (built_ranged terms []) (build_invariant terms shaped rank)) (λ why range. range))
        (λ table inv. close_answers rank terms [] [] one-to-one shaped _ inv))
        (ends_ended 0 [] refl)

    -- The assumptions in file order.
    assume_answers : SidesBelow (length terms) pairs → (rest done : List Pair) (place : ℕ) (state : State) → done ++ rest ≡ pairs → place ≡ suc (length done) → Completed rank terms done done state → Answers (Completed rank terms pairs pairs) (Ended terms pairs) (assume rank terms place rest state)
    unfolding assume SidesBelow
    assume_answers sides [] done place state all here complete = if_made (subst (λ ps. Completed rank terms ps ps state) (sym (append-nil done) ∙ all) complete)
    assume_answers sides (pair ∷ rest) done place state all here complete =
        let whole : done ++ pair ∷ [] ++ rest ≡ pairs = append_snoc done pair rest ∙ all in
        let far : length (done ++ pair ∷ []) ≡ place = simp length-append (omega arith) in
        answers_bind
        (answers_because (ends place) (step_answers done pair (sides pair (subst (Memᴰ pair) all (Memᴰ.append_right done (Memᴰ.head refl)))) state complete.invariant) (ends_ended place (done ++ pair ∷ []) (sym (take_at (done ++ pair ∷ []) rest place far) ∙ ap (take place) whole)))
        (λ next step. assume_answers sides rest (done ++ pair ∷ []) (suc place) next whole (ap suc (sym far)) step)

-- What meets all assumptions meets the first ones.
meets_early : (v : ℕ → ℚ) (place : ℕ) (pairs : List Pair) → ValuesMeet v pairs → ValuesMeet v (take place pairs)
unfolding ValuesMeet
meets_early v place pairs meets pair member = meets pair (subst (Memᴰ pair) (take-append-drop place pairs) (Memᴰ.append_left (drop place pairs) member))

module _ (ranking : Ranking) (problem : Problem) (strict : Strict ranking) (shaped : Shaped problem.terms) (sides : SidesBelow (length problem.terms) problem.pairs) where
  -- What the run answers: a completed state, or a stop and what it means.
  pub run_answers : Answers (Completed (ranking problem.terms) problem.terms problem.pairs problem.pairs) (Ended problem.terms problem.pairs) (run ranking problem)
  unfolding run Strict
  run_answers =
      answers_bind (begin_answers (ranking problem.terms) problem.terms (strict problem.terms) shaped problem.pairs)
      (λ state complete. assume_answers (ranking problem.terms) problem.terms (strict problem.terms) shaped problem.pairs sides problem.pairs [] 1 state refl refl complete)

  -- A run that is made ends with all assumptions in force and met, and a closed table.
  pub run_finished : (state : State) → run ranking problem ≡ made state → Completed (ranking problem.terms) problem.terms problem.pairs problem.pairs state
  run_finished state h = answers_made run_answers h

  -- A run that stops does so with a contradiction or a number outside the limits.
  pub run_stopped : (answer : Answer) → run ranking problem ≡ stopped answer → Ended problem.terms problem.pairs answer
  run_stopped answer h = answers_stopped run_answers h

  -- Contradictory at a place: no valuation meets the assumptions up to that place, let alone all of them.
  pub run_contradicts_early : (place : ℕ) → run ranking problem ≡ stopped (Contradictory place) → NoneMeets problem.terms (take place problem.pairs)
  unfolding Ended
  run_contradicts_early place h = run_stopped (Contradictory place) h

  pub run_contradicts : (place : ℕ) → run ranking problem ≡ stopped (Contradictory place) → NoneMeets problem.terms problem.pairs
  unfolding NoneMeets
  run_contradicts place h v valued meets = run_contradicts_early place h v valued (meets_early v place problem.pairs meets)

  -- The count is at most the number of variable and lookup records.
  pub run_count : (state : State) → run ranking problem ≡ made state → state.solved ≤ count (length problem.terms) (λ c. is_unknown (kind_at problem.terms c))
  run_count state h = solved_at_most (run_finished state h).invariant
