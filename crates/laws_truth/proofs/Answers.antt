-- What the answer of a run says of a sound problem, for any ranking of the unknowns.
-- Main results: `judged_count`, `judged_not_refused`, `stopped_either`, `stopped_unfinished`, `answer_meant` (D2). Assume nothing.
use mathlib.Core.Path.{◌≡◌, refl, sym, ap, ◌∙◌, subst}
use mathlib.Core.Logic.{◌⊎◌, inl, inr}
use mathlib.Core.Bool.{Bool, true, false}
use Prim.Native.Nat.{ℕ}
use native.Mathlib.Omega.{arith}
use Rattle.answer.specs.declared.Answer.{Answer}
use Rattle.answer.specs.declared.Answer.TheVariants.{Entailed, NotEntailed, Contradictory, Refused}
use Rattle.answer.specs.Said.{entailed, not_entailed, said}
use Rattle.fraction.specs.Limits.{Outside}
use Rattle.fraction.specs.Made.{Made, made, stopped}
use Rattle.rules_problem.specs.Problem.{Pair, Problem}
use Rattle.laws_valuation.specs.Sound.{Sound}
use Rattle.rules_run.specs.Row.{same_row}
use Rattle.rules_run.specs.Merge.{State}
use Rattle.rules_run.specs.Run.{Ranking, run, judged}
use Rattle.laws_invariant.specs.Invariant.{Strict, Ended}
use Rattle.laws_invariant.proofs.Run.{run_stopped}
use Rattle.rules_outcome.specs.Outcome.{after_run, answered}
use Rattle.laws_truth.specs.Meant.{Meant}
use Rattle.laws_truth.proofs.Decided.{stopped_contradictory, finished_entailed, finished_not_entailed}
use Rattle.laws_invariant.proofs.Granted.{sound_shaped, sound_sides}

-- The answer of a finished run has its count, and is no refusal.
pub judged_count : (goal : Pair) (state : State) → (said (judged goal state)).count ≡ state.solved
unfolding judged said
judged_count goal state = grind arith

pub judged_not_refused : (goal : Pair) (state : State) (number place : ℕ) → judged goal state ≡ Refused number place → ⊥
unfolding judged
judged_not_refused goal state number place h = grind arith

module _ (ranking : Ranking) (problem : Problem) (strict : Strict ranking) (sound : Sound problem) where
  -- A run that stops contradicts, or is refused since a number is outside the limits.
  pub stopped_either : (answer : Answer) → run ranking problem ≡ stopped answer → ((place : ℕ) × (answer ≡ Contradictory place)) ⊎ ((number : ℕ) × (place : ℕ) × Outside number × (answer ≡ Refused number place))
  unfolding Ended
  stopped_either answer h = by answer (run_stopped ranking problem strict (sound_shaped problem sound) (sound_sides problem sound) answer h)
    where
      by : (answer : Answer) → Ended problem.terms problem.pairs answer → ((place : ℕ) × (answer ≡ Contradictory place)) ⊎ ((number : ℕ) × (place : ℕ) × Outside number × (answer ≡ Refused number place))
      by (Entailed solved) ended = absurd ended
      by (NotEntailed solved) ended = absurd ended
      by (Contradictory place) ended = inl (place, refl)
      by (Refused number place) ended = inr (number, place, ended, refl)

  -- Such an answer is neither entailed nor not-entailed.
  pub stopped_unfinished : (answer : Answer) → run ranking problem ≡ stopped answer → ((said answer).word ≡ entailed) ⊎ ((said answer).word ≡ not_entailed) → ⊥
  unfolding said
  stopped_unfinished answer h finishes = grind (arith, stopped_either answer h)

  -- D2: what a run answers is true, unless a number is outside the limits.
  pub answer_meant : (answer : Made Answer State) → run ranking problem ≡ answer → ((number place : ℕ) → Outside number × (run ranking problem ≡ stopped (Refused number place)) → ⊥) → Meant problem (said (answered (after_run problem answer))).word
  unfolding answered after_run judged said Meant
  answer_meant (made state) h inside = by (same_row state.table problem.goal.left problem.goal.right) refl
    where
      by : (b : Bool) → same_row state.table problem.goal.left problem.goal.right ≡ b → Meant problem (said (judged problem.goal state)).word
      by true same = rw same (finished_entailed ranking problem strict sound state h same)
      by false other = rw other (finished_not_entailed ranking problem strict sound state h other)
  answer_meant (stopped answer) h inside = by (stopped_either answer h)
    where
      by : ((place : ℕ) × (answer ≡ Contradictory place)) ⊎ ((number : ℕ) × (place : ℕ) × Outside number × (answer ≡ Refused number place)) → Meant problem (said answer).word
      by (inl (place, same)) = subst (λ a. Meant problem (said a).word) (sym same) (stopped_contradictory ranking problem strict sound place (h ∙ ap stopped same))
      by (inr (number, place, range, same)) = absurd (inside number place (range, h ∙ ap stopped same))
