-- Which weighted sums of terms vanish in every valuation that meets the assumptions.
-- Main result: `vanishes_exactly` (D2w). Assumes nothing.
use mathlib.Core.Path.{◌≡◌, sym, ap, ◌∙◌}
use mathlib.Core.Logic.{◌↔◌, ⊎_elim}
use mathlib.Core.List.{List}
use Prim.Native.Nat.{ℕ, ◌≤◌, ◌<◌}
use native.Mathlib.Omega.{arith}
use lib.ListN.{length}
use Rattle.fraction.specs.Exact.{ℚ, zero_ℚ, ◌+ℚ◌, ◌*ℚ◌}
use Rattle.laws_linear.specs.Apart.{Differ}
use Rattle.laws_linear.proofs.Differ.{same_or_differ}
use Rattle.laws_linear.proofs.Eval.{eval_constant, eval_weighted}
use Rattle.laws_linear.proofs.Spread.{separated_with}
use Rattle.laws_linear.proofs.Sum.{sum_equal}
use Rattle.laws_linear.specs.Form.{eval}
use Rattle.rules_problem.specs.declared.Term.{Term}
use Rattle.rules_problem.specs.Problem.{Pair}
use Rattle.laws_valuation.specs.Valuation.{Valuation}
use Rattle.rules_run.specs.Row.{TERMS, Table, cell}
use Rattle.rules_run.specs.Merge.{State}
use Rattle.laws_invariant.specs.Invariant.{Shaped, ValuesMeet, Completed}
use Rattle.laws_truth.specs.Sums.{value_at, weighted, weighted_row}
use Rattle.laws_truth.proofs.Model.{model_valued, model_meets}

-- The value of a weighted sum of rows is the weighted sum of their values.
weighted_value : (n : ℕ) (weight : ℕ → ℚ) (k : ℚ) (table : Table) (a : ℕ → ℚ) → eval TERMS (weighted_row n weight k table) a ≡ weighted n weight k (value_at table a)
unfolding weighted_row weighted value_at
weighted_value n weight k table a = eval_weighted TERMS n weight k (cell table) a

-- A weighted sum depends on the numbers of the first n only.
pub weighted_equal : (n : ℕ) (weight : ℕ → ℚ) (k : ℚ) {v w : ℕ → ℚ} → ((t : ℕ) → t < n → v t ≡ w t) → weighted n weight k v ≡ weighted n weight k w
unfolding weighted
weighted_equal n weight k same = ap (λ x. x +ℚ k) (sum_equal n (λ t below. ap (λ x. weight t *ℚ x) (same t below)))

module _ {rank : ℕ → ℕ} {terms : List Term} {pairs : List Pair} {state : State} (shaped : Shaped terms) (complete : Completed rank terms pairs pairs state) where
  -- D2w: a weighted sum of the terms plus a constant vanishes in every valuation that meets the assumptions exactly if the same
  -- weighted sum of the rows is zero in every column.
  pub vanishes_exactly : (weight : ℕ → ℚ) (k : ℚ) → ((v : ℕ → ℚ) → Valuation terms v → ValuesMeet v pairs → weighted (length terms) weight k v ≡ zero_ℚ) ↔ ((c : ℕ) → c ≤ TERMS → weighted_row (length terms) weight k state.table c ≡ zero_ℚ)
  unfolding value_at
  vanishes_exactly weight k = (
    λ vanishes. ⊎_elim (λ same. same) (λ differ. absurd (apart vanishes differ)) (same_or_differ TERMS (weighted_row (length terms) weight k state.table) (λ c. zero_ℚ)),
    λ zeros v valued meets.
        weighted_equal (length terms) weight k (complete.invariant.sound v valued meets)
        ∙ sym (weighted_value (length terms) weight k state.table v)
        ∙ eval_constant TERMS (weighted_row (length terms) weight k state.table) v (λ c below. zeros c (omega arith)) ∙ zeros TERMS (omega arith),
  )
    where
      apart : ((v : ℕ → ℚ) → Valuation terms v → ValuesMeet v pairs → weighted (length terms) weight k v ≡ zero_ℚ) → Differ TERMS (weighted_row (length terms) weight k state.table) (λ c. zero_ℚ) → ⊥
      apart vanishes differ =
          let (a, separates, nonzero) = separated_with TERMS (length terms) (cell state.table) (weighted_row (length terms) weight k state.table) differ in
          nonzero (weighted_value (length terms) weight k state.table a ∙ vanishes (value_at state.table a) (model_valued shaped complete a separates) (model_meets shaped complete a))
