-- Demand 2 of the rules: what comes back is true, for every ranking that ranks no two columns alike.
-- Main results: `outcome_truthful`, `finished_run`, `rules_tell_the_truth`, `said_in_range`, `presumes_nothing_true`. Assume nothing.
use mathlib.Core.Path.{◌≡◌, refl, sym, ap, ◌∙◌, subst}
use mathlib.Core.Logic.Iff
use mathlib.Core.Logic.{◌↔◌}
use mathlib.Core.List.{List}
use Prim.Native.Nat.{ℕ, ◌+◌, ◌*◌, ◌<◌}
use native.Mathlib.Omega.{arith}
use lib.ListN.{length, get_or}
use lib.IntN.{pos, nat_abs}
use Rattle.answer.specs.declared.Answer.{Answer}
use Rattle.answer.specs.declared.Answer.TheVariants.{Refused}
use Rattle.answer.specs.Said.{entailed, not_entailed, contradictory, said}
use Rattle.fraction.specs.Limits.{Outside}
use Rattle.fraction.specs.Made.{Made, made, stopped}
use Rattle.fraction.proofs.Cross.{ℚ-path}
use Rattle.fraction.proofs.Making.{stopped_not_made}
use Rattle.rules_problem.specs.Problem.{Problem, decoded}
use Rattle.rules_reading.specs.Forced.{Forced}
use Rattle.laws_valuation.specs.Sound.{Sound}
use Rattle.laws_valuation.proofs.Decoded.{decoded_sound}
use Rattle.rules_run.specs.Row.{TERMS, COLUMNS, Table, cell}
use Rattle.rules_run.specs.Merge.{State}
use Rattle.rules_run.specs.Run.{Ranking, run, judged}
use Rattle.laws_invariant.specs.Invariant.{Strict, Ended}
use Rattle.laws_invariant.specs.Rows.{EqualCells}
use Rattle.laws_invariant.proofs.Granted.{sound_shaped, sound_sides}
use Rattle.laws_invariant.proofs.Run.{run_stopped}
use Rattle.rules_outcome.specs.Outcome.{Lent, Long, Outcome, laid_out, finished, rows, after_run, after, outcome}
use Rattle.rules_outcome.proofs.Cells.{laid_out_at}
use Rattle.rules_outcome.proofs.Decided.{after_answer, outcome_run}
use Rattle.rules_demands.specs.Demands.{Program, NothingPresumed, word_of, NotRefused, InRange, OutOfRange, EqualRows, Finished, Truthful, EqualIsTrue}
use Rattle.laws_truth.specs.Meant.{Meant}
use Rattle.laws_truth.proofs.Words.{word_exactly}
use Rattle.laws_truth.proofs.Answers.{judged_count, judged_not_refused, stopped_unfinished, answer_meant}
use Rattle.laws_truth.proofs.Decided.{rows_forced}

-- Lists that hold a table show equal rows exactly where the table has them.
cells_equal : (answer : Answer) (table : Table) (lent : Lent) → Long lent → (t u : ℕ) → t < TERMS → u < TERMS → EqualRows (after (finished answer table) lent) t u ↔ EqualCells table t u
unfolding EqualRows after rows
cells_equal answer table lent long t u t-below u-below = (
  λ same c below. ℚ-path (sym (top t c t-below below) ∙ (same c below).0 ∙ top u c u-below below) (ap nat_abs (sym (bottom t c t-below below) ∙ (same c below).1 ∙ bottom u c u-below below)),
  λ same c below. (
    top t c t-below below ∙ ap (λ q. q.num) (same c below) ∙ sym (top u c u-below below),
    bottom t c t-below below ∙ ap (λ q. pos q.den) (same c below) ∙ sym (bottom u c u-below below),
  ),
)
  where
    top : (t c : ℕ) → t < TERMS → c < COLUMNS → get_or (laid_out (λ t c. (cell table t c).num) lent.numerators) (COLUMNS * t + c) (pos 0) ≡ (cell table t c).num
    top t c row below = laid_out_at (λ t c. (cell table t c).num) lent.numerators t c long.numerators row below

    bottom : (t c : ℕ) → t < TERMS → c < COLUMNS → get_or (laid_out (λ t c. pos (cell table t c).den) lent.denominators) (COLUMNS * t + c) (pos 0) ≡ pos (cell table t c).den
    bottom t c row below = laid_out_at (λ t c. pos (cell table t c).den) lent.denominators t c long.denominators row below

module _ (ranking : Ranking) (strict : Strict ranking) (problem : Problem) (sound : Sound problem) (lent : Lent) (long : Long lent) where
  -- what a run leaves
  left : Made Answer State → Outcome
  left answer = after (after_run problem answer) lent

  -- Its word is true, unless a number of the run is outside the limits,
  true_word : (answer : Made Answer State) → run ranking problem ≡ answer → InRange ranking problem → Meant problem (word_of (left answer))
  unfolding left word_of InRange OutOfRange
  true_word answer h inside =
      subst (λ a. Meant problem (said a).word) (sym (after_answer (after_run problem answer) lent))
      (answer_meant ranking problem strict sound answer h inside)

  -- which its answer tells,
  true_range : (answer : Made Answer State) → run ranking problem ≡ answer → (number place : ℕ) → ((left answer).answer ≡ Refused number place) ↔ OutOfRange ranking problem number place
  unfolding left after after_run OutOfRange Ended
  true_range (made state) h number place = (λ refuses. absurd (judged_not_refused problem.goal state number place refuses), λ stops. absurd (stopped_not_made (sym stops.1 ∙ h)))
  true_range (stopped answer) h number place = (λ refuses. by (h ∙ ap stopped refuses), λ stops. let same = stops.1 in cc)
    where
      by : run ranking problem ≡ stopped (Refused number place) → Outside number × (run ranking problem ≡ stopped (Refused number place))
      by stops = (run_stopped ranking problem strict (sound_shaped problem sound) (sound_sides problem sound) (Refused number place) stops, stops)

  -- a finished table shows just what is forced,
  true_rows : (answer : Made Answer State) → run ranking problem ≡ answer → Finished (left answer) → (t u : ℕ) → t < length problem.terms → u < length problem.terms → EqualRows (left answer) t u ↔ Forced problem (record { left = t; right = u })
  unfolding left after after_run Finished word_of
  true_rows (made state) h finishes t u t-below u-below =
      let fits = (sound_shaped problem sound).fits in
      Iff.trans (cells_equal (judged problem.goal state) state.table lent long t u (omega arith) (omega arith))
      (rows_forced ranking problem strict sound state h t u t-below u-below)
  true_rows (stopped answer) h finishes t u t-below u-below = absurd (stopped_unfinished ranking problem strict sound answer h finishes)

  -- and the count is the run's.
  true_count : (answer : Made Answer State) → run ranking problem ≡ answer → (state : State) → run ranking problem ≡ made state → (said (left answer).answer).count ≡ state.solved
  unfolding left after after_run
  true_count (made state) h other again = let same : state ≡ other = cc in judged_count problem.goal state ∙ ap (λ s. s.solved) same
  true_count (stopped answer) h other again = absurd (stopped_not_made (sym h ∙ again))

  -- A finished table is that of a run that went through.
  went_through : (answer : Made Answer State) → run ranking problem ≡ answer → Finished (left answer) → (state : State) × (run ranking problem ≡ made state)
  unfolding left after after_run Finished word_of
  went_through (made state) h finishes = (state, h)
  went_through (stopped answer) h finishes = absurd (stopped_unfinished ranking problem strict sound answer h finishes)

  run_truthful : (answer : Made Answer State) → run ranking problem ≡ answer → Truthful ranking problem (left answer)
  unfolding Meant
  run_truthful answer h = record {
    entailed_exactly = λ inside. word_exactly problem (true_word answer h inside) entailed;
    contradictory_exactly = λ inside. word_exactly problem (true_word answer h inside) contradictory;
    not_entailed_exactly = λ inside. word_exactly problem (true_word answer h inside) not_entailed;
    range_exactly = true_range answer h;
    rows_exactly = true_rows answer h;
    count_exactly = true_count answer h;
  }

module _ (ranking : Ranking) (strict : Strict ranking) where
  -- What comes back of a problem that passes the first six tests is true.
  pub outcome_truthful : (bytes : List ℕ) (lent : Lent) (problem : Problem) → Long lent → decoded bytes ≡ made problem → Truthful ranking problem (outcome ranking bytes lent)
  unfolding left
  outcome_truthful bytes lent problem long read =
      subst (Truthful ranking problem) (sym (outcome_run ranking bytes lent long problem read))
      (run_truthful ranking strict problem (decoded_sound bytes problem read) lent long (run ranking problem) refl)

  -- A finished table of such a problem comes of a run that went through.
  pub finished_run : (bytes : List ℕ) (lent : Lent) (problem : Problem) → Long lent → decoded bytes ≡ made problem → Finished (outcome ranking bytes lent) → (state : State) × (run ranking problem ≡ made state)
  unfolding left
  finished_run bytes lent problem long read finishes =
      went_through ranking strict problem (decoded_sound bytes problem read) lent long (run ranking problem) refl
      (subst Finished (outcome_run ranking bytes lent long problem read) finishes)

  -- Demand 2, for the rules.
  pub rules_tell_the_truth : EqualIsTrue ranking (outcome ranking)
  unfolding EqualIsTrue
  rules_tell_the_truth = outcome_truthful

  -- So what meets demand 1 meets demand 2.
  pub presumes_nothing_true : (program : Program) → NothingPresumed ranking program → EqualIsTrue ranking program
  unfolding EqualIsTrue NothingPresumed
  presumes_nothing_true program same bytes lent problem long read = subst (Truthful ranking problem) (sym (same bytes lent)) (outcome_truthful bytes lent problem long read)

-- A true outcome that is no refusal is that of a problem in range.
pub said_in_range : {ranking : Ranking} {problem : Problem} {o : Outcome} → Truthful ranking problem o → NotRefused o → InRange ranking problem
unfolding InRange NotRefused word_of said
said_in_range {o = o} true-outcome passed number place out = passed number (ap (λ answer. (said answer).word) ((true-outcome.range_exactly number place).1 out))
