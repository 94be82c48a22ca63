-- Which terms have the same number in every valuation that meets the assumptions.
-- Main results: `told_apart`, `equated_exactly` (D2 on valuations). Assume nothing.
use mathlib.Core.Path.{◌≡◌}
use mathlib.Core.Logic.{◌↔◌}
use mathlib.Core.List.{List}
use Prim.Native.Nat.{ℕ, ◌<◌}
use lib.ListN.{length}
use Rattle.fraction.specs.Exact.{ℚ}
use Rattle.laws_linear.proofs.Spread.{separated}
use Rattle.rules_problem.specs.declared.Term.{Term}
use Rattle.rules_problem.specs.Problem.{Pair}
use Rattle.laws_valuation.specs.Valuation.{Valuation}
use Rattle.rules_run.specs.Row.{TERMS, cell}
use Rattle.rules_run.specs.Merge.{State}
use Rattle.laws_invariant.specs.Rows.{EqualCells}
use Rattle.laws_invariant.specs.Invariant.{Shaped, ValuesMeet, Equates, Completed}
use Rattle.laws_invariant.proofs.Close.{equal_rows_forced}
use Rattle.laws_truth.specs.Sums.{value_at}
use Rattle.laws_truth.proofs.Model.{equal_values, model_valued, model_meets}

module _ {rank : ℕ → ℕ} {terms : List Term} {pairs : List Pair} {state : State} (shaped : Shaped terms) (complete : Completed rank terms pairs pairs state) where
  -- D2 on valuations: there is one that meets the assumptions, and it gives two terms the same number only if their rows are equal.
  pub told_apart : (v : ℕ → ℚ) × Valuation terms v × ValuesMeet v pairs × ((t u : ℕ) → t < length terms → u < length terms → (v t ≡ v u) ↔ EqualCells state.table t u)
  told_apart =
      let (a, separates) = separated TERMS (length terms) (cell state.table) in
      (value_at state.table a, model_valued shaped complete a separates, model_meets shaped complete a, equal_values (length terms) state.table a separates)

  -- Two terms have equal rows exactly if every valuation that meets the assumptions gives them the same number.
  pub equated_exactly : (t u : ℕ) → t < length terms → u < length terms → EqualCells state.table t u ↔ Equates terms pairs t u
  unfolding Equates
  equated_exactly t u t-below u-below = (
    equal_rows_forced complete.invariant t u t-below u-below,
    λ equates. let (v, valued, meets, equal) = told_apart in (equal t u t-below u-below).0 (equates v valued meets),
  )
