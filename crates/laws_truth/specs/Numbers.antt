-- Weighted sums of the whole numbers that a reading gives its terms.
-- Main definition: `weighted_number`. Assumes nothing.
use Rattle.std.specs.Prelude.{List, ℕ, zero, suc, length, ℤ, pos, ◌+ℤ◌, ◌*ℤ◌}
use Rattle.rules_problem.specs.declared.Term.{Term}
use Rattle.rules_reading.specs.Reading.{Reading}

-- the sum of g at the numbers below `count`
unfoldable pub total : (count : ℕ) → (g : ℕ → ℤ) → ℤ
total zero g = pos 0
total (suc c) g = total c g +ℤ g c

-- whole-number weights for the terms, "plus a whole constant (counted times D in a reading)"
unfoldable pub weighted_number : {terms : List Term} → (weight : ℕ → ℤ) → (k : ℤ) → Reading terms → ℤ
weighted_number {terms} weight k reading = total (length terms) (λ t. weight t *ℤ reading.number t) +ℤ k *ℤ pos reading.divisor
