-- What the run tells of the readings of a sound problem, for any ranking of the unknowns.
-- Main results: `finished_met`, `rows_forced`, `row_test_forced`, `finished_entailed`, `finished_not_entailed`, `stopped_contradictory` (D2). Assume nothing.
use mathlib.Core.Path.{◌≡◌, sym, ◌∙◌}
use mathlib.Core.Logic.Iff
use mathlib.Core.Logic.{◌↔◌}
use mathlib.Core.Bool.{true, false, true≢false}
use Prim.Native.Nat.{ℕ, ◌<◌}
use lib.ListN.{length}
use Rattle.answer.specs.declared.Answer.TheVariants.{Contradictory}
use Rattle.fraction.specs.Made.{made, stopped}
use Rattle.rules_problem.specs.Problem.{Pair, Problem}
use Rattle.rules_reading.specs.Reading.{Meets}
use Rattle.rules_reading.specs.Forced.{Met, Forced, IsContradictory, IsEntailed, IsNotEntailed}
use Rattle.laws_valuation.specs.Sound.{Sound}
use Rattle.laws_valuation.proofs.Readings.{value_in_equal}
use Rattle.rules_run.specs.Row.{same_row}
use Rattle.rules_run.specs.Merge.{State}
use Rattle.rules_run.specs.Run.{Ranking, run}
use Rattle.laws_invariant.specs.Rows.{EqualCells}
use Rattle.laws_invariant.specs.Invariant.{Strict, Completed}
use Rattle.laws_invariant.proofs.Rows.{same_row_equal}
use Rattle.laws_invariant.proofs.Run.{run_finished, run_contradicts}
use Rattle.laws_truth.proofs.Equated.{told_apart, equated_exactly}
use Rattle.laws_invariant.proofs.Granted.{sound_shaped, sound_sides}
use Rattle.laws_truth.proofs.Readings.{valued_met, none_met, forced_exactly}

module _ (ranking : Ranking) (problem : Problem) (strict : Strict ranking) (sound : Sound problem) where
  -- Where the run contradicts, no reading meets the assumptions.
  pub stopped_contradictory : (place : ℕ) → run ranking problem ≡ stopped (Contradictory place) → IsContradictory problem
  stopped_contradictory place h = none_met problem sound (run_contradicts ranking problem strict (sound_shaped problem sound) (sound_sides problem sound) place h)

  module _ (state : State) (h : run ranking problem ≡ made state) where
    -- Where the run finishes, the invariant holds with all assumptions in force and met, and the table is closed.
    pub finished_complete : Completed (ranking problem.terms) problem.terms problem.pairs problem.pairs state
    finished_complete = run_finished ranking problem strict (sound_shaped problem sound) (sound_sides problem sound) state h

    -- A reading meets the assumptions that gives terms equal numbers only if their rows are equal.
    pub finished_met : (met : Met problem) × ((t u : ℕ) → t < length problem.terms → u < length problem.terms → met.reading.number t ≡ met.reading.number u → EqualCells state.table t u)
    finished_met =
        let (v, valued, meets, apart) = told_apart (sound_shaped problem sound) finished_complete in
        let (met, values) = valued_met problem sound v valued meets in
        (met, λ t u t-below u-below same. (apart t u t-below u-below).0 (sym (values t t-below) ∙ (value_in_equal met.reading t u).0 same ∙ values u u-below))

    -- In the finished table two terms have equal rows exactly if the assumptions force them equal.
    pub rows_forced : (t u : ℕ) → t < length problem.terms → u < length problem.terms → EqualCells state.table t u ↔ Forced problem (record { left = t; right = u })
    rows_forced t u t-below u-below =
        Iff.trans (equated_exactly (sound_shaped problem sound) finished_complete t u t-below u-below) (forced_exactly problem sound t u t-below u-below)

    -- The run's test of two rows finds just that.
    pub row_test_forced : (pair : Pair) → (pair.left < length problem.terms) × (pair.right < length problem.terms) → (same_row state.table pair.left pair.right ≡ true) ↔ Forced problem pair
    row_test_forced pair (left, right) =
        Iff.trans (same_row_equal state.table pair.left pair.right) (rows_forced pair.left pair.right left right)

    -- So the test of the goal's rows tells entailed from not-entailed.
    pub finished_entailed : same_row state.table problem.goal.left problem.goal.right ≡ true → IsEntailed problem
    unfolding IsEntailed
    finished_entailed same = (finished_met.0, (row_test_forced problem.goal sound.goal).0 same)

    pub finished_not_entailed : same_row state.table problem.goal.left problem.goal.right ≡ false → IsNotEntailed problem
    unfolding IsNotEntailed Meets
    finished_not_entailed other =
        let (met, apart) = finished_met in
        let (left, right) = sound.goal in
        (met, λ same. true≢false (sym ((same_row_equal state.table _ _).1 (apart problem.goal.left problem.goal.right left right same)) ∙ other))
