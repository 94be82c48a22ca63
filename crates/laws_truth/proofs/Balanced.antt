-- Which whole-number weighted sums of terms are zero in every reading that meets the assumptions.
-- Main results: `weighted_numbers`, `balanced_exactly`. Assume nothing.
use mathlib.Core.Path.{◌≡◌, refl, sym, ◌∙◌}
use mathlib.Core.Logic.{◌↔◌}
use mathlib.Core.List.{List, [], ◌∷◌}
use Prim.Native.Nat.{ℕ, zero, suc, ◌≤◌, ◌<◌}
use native.Mathlib.Nat.{one-mul, zero-mul}
use lib.ListN.{length}
use lib.IntN.{ℤ, pos, ◌*ℤ◌}
use Rattle.whole.proofs.Ring.{ℤ-ring, readsℤ}
use Rattle.whole.proofs.Solver.{ring}
use Rattle.fraction.specs.Exact.{ℚ, whole, zero_ℚ, ◌*ℚ◌}
use Rattle.fraction.specs.Made.{made}
use Rattle.fraction.proofs.Common.{equal_over, sum_over}
use Rattle.fraction.proofs.Cross.{Is, self, frac_is, times_is}
use Rattle.laws_linear.specs.Form.{sum}
use Rattle.rules_problem.specs.declared.Term.{Term}
use Rattle.rules_problem.specs.Problem.{Problem}
use Rattle.rules_reading.specs.Reading.{Reading}
use Rattle.rules_reading.specs.Forced.{Met}
use Rattle.laws_valuation.specs.Sound.{Sound}
use Rattle.laws_valuation.specs.Values.{value_in}
use Rattle.rules_run.specs.Row.{TERMS}
use Rattle.rules_run.specs.Merge.{State}
use Rattle.rules_run.specs.Run.{Ranking, run}
use Rattle.laws_invariant.specs.Invariant.{Strict}
use Rattle.laws_truth.specs.Numbers.{total, weighted_number}
use Rattle.laws_truth.specs.Sums.{weighted, weighted_row}
use Rattle.laws_truth.proofs.Decided.{finished_complete}
use Rattle.laws_invariant.proofs.Granted.{sound_shaped}
use Rattle.laws_truth.proofs.Readings.{met_valued, valued_met}
use Rattle.laws_truth.proofs.Weighted.{weighted_equal, vanishes_exactly}

-- A whole number is that many D over D, and a whole multiple of a fraction over D the multiple of its numerator.
whole_over : (k : ℤ) {D : ℕ} → 0 < D → Is (whole k) (k *ℤ pos D) D
unfolding whole
whole_over k {D} above = record { positive = above; cross = ring ℤ-ring (k ∷ pos D ∷ []) (search readsℤ depth 20) refl }

zero_over : {D : ℕ} → 0 < D → Is zero_ℚ (pos 0) D
unfolding zero_ℚ
zero_over above = rw zero-mul at (whole_over (pos 0) above)

multiple_over : (w : ℤ) {x : ℚ} {m : ℤ} {D : ℕ} → Is x m D → Is (whole w *ℚ x) (w *ℤ m) D
unfolding whole
multiple_over w h = rw one-mul at (times_is (self (whole w)) h)

-- A sum of fractions over D is the sum of their numerators over D.
total_over : (count : ℕ) {f : ℕ → ℚ} {g : ℕ → ℤ} {D : ℕ} → 0 < D → ((t : ℕ) → Is (f t) (g t) D) → Is (sum count f) (total count g) D
unfolding sum total
total_over zero above over = zero_over above
total_over (suc count) above over = sum_over (total_over count above over) (over count)

-- The weighted sum of the numbers of a reading is zero exactly if that of its values is.
pub weighted_numbers : {terms : List Term} (weight : ℕ → ℤ) (k : ℤ) (r : Reading terms) → (weighted_number weight k r ≡ pos 0) ↔ (weighted (length terms) (λ t. whole (weight t)) (whole k) (value_in r) ≡ zero_ℚ)
unfolding weighted_number weighted value_in
weighted_numbers {terms} weight k r =
    equal_over (sum_over (total_over (length terms) r.positive (λ t. multiple_over (weight t) (frac_is (r.number t) r.positive))) (whole_over k r.positive))
    (zero_over r.positive)

-- Every reading that meets the assumptions makes the weighted sum of the terms zero exactly if the same weighted sum of the rows
-- of a finished run is zero in every column.
pub balanced_exactly : (ranking : Ranking) (problem : Problem) → Strict ranking → (sound : Sound problem) (state : State) → run ranking problem ≡ made state → (weight : ℕ → ℤ) (k : ℤ) → ((met : Met problem) → weighted_number weight k met.reading ≡ pos 0) ↔ ((c : ℕ) → c ≤ TERMS → weighted_row (length problem.terms) (λ t. whole (weight t)) (whole k) state.table c ≡ zero_ℚ)
balanced_exactly ranking problem strict sound state h weight k =
    let rows = vanishes_exactly (sound_shaped problem sound) (finished_complete ranking problem strict sound state h) (λ t. whole (weight t)) (whole k) in (
      λ balanced. rows.0 (λ v valued meets.
          let (met, values) = valued_met problem sound v valued meets in
          weighted_equal (length problem.terms) _ _ (λ t below. sym (values t below)) ∙ (weighted_numbers weight k met.reading).0 (balanced met)),
      λ zeros met.
          let (valued, meets) = met_valued problem sound met in
          (weighted_numbers weight k met.reading).1 (rows.1 zeros (value_in met.reading) valued meets),
    )
