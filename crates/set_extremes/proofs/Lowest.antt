-- The least number of a set.
-- Main results: `lowest`, `trailing_within`, `least_below`. Assume nothing.
use mathlib.Core.Path.{◌≡◌, refl, ap, ◌∙◌}
use mathlib.Core.Bool.{false}
use Prim.Native.Nat.{ℕ, zero, suc, ◌/◌, ◌%◌, ◌^◌, ◌<◌, ◌≤◌}
use native.Mathlib.Nat.{pow-suc}
use native.Mathlib.Omega.{arith}
use lib.Dec.{eqb}
use lib.Count.{count_trailing_zeros, under, trailing_le}
use Rattle.set_members.specs.Sets.{holds}
use Rattle.set_members.proofs.Digits.{holds_zero, holds_suc}
use Rattle.set_extremes.specs.Extremes.{Least, LeastBelow}

-- 0 is the least number in a set of an odd number.
least_odd : (set : ℕ) → set % 2 ≡ 1 → Least set 0
least_odd set odd = record { inside = holds_zero set ∙ ap (λ x. eqb x 1) odd; none_below = λ k h. absurd (omega arith) }

not_zero : (set : ℕ) → set % 2 ≡ 0 → holds set 0 ≡ false
not_zero set even = holds_zero set ∙ ap (λ x. eqb x 1) even

-- The least number in a set of an even number is one more than that of its half.
least_even : (set i : ℕ) → set % 2 ≡ 0 → Least (set / 2) i → Least set (suc i)
least_even set i even least = record { inside = holds_suc set i ∙ least.inside; none_below = below }
  where
    below : (k : ℕ) → k < suc i → holds set k ≡ false
    below zero h = not_zero set even
    below (suc k) h = holds_suc set k ∙ least.none_below k (omega arith)

-- The zeros at the end of a number that is not 0 are as many as its set's least number says.
pub lowest : (width set : ℕ) → 0 < set → set < 2 ^ width → (count_trailing_zeros width set < width) × Least set (count_trailing_zeros width set)
unfolding count_trailing_zeros
lowest zero set some small = absurd (omega arith)
lowest (suc width) set some small = by (set % 2) refl (lowest width (set / 2))
  where
    by : (last : ℕ) → set % 2 ≡ last
        → (0 < set / 2 → set / 2 < 2 ^ width → (count_trailing_zeros width (set / 2) < width) × Least (set / 2) (count_trailing_zeros width (set / 2)))
        → (under last (count_trailing_zeros width (set / 2)) < suc width) × Least set (under last (count_trailing_zeros width (set / 2)))
    by zero even rest =
        let half : set / 2 < 2 ^ width = omega (arith, pow-suc 2 width) in
        let found = rest (omega arith) half in
        (omega (arith, found.0), least_even set (count_trailing_zeros width (set / 2)) even found.1)
    by (suc last) odd rest = (omega arith, least_odd set (omega arith))

pub trailing_within : (set : ℕ) → count_trailing_zeros 64 set ≤ 64
trailing_within set = trailing_le 64 set

pub least_below : {set : ℕ} → 0 < set → set < 2 ^ 64 → LeastBelow set (count_trailing_zeros 64 set)
least_below some small = let found = lowest 64 _ some small in record { below = found.0; least = found.1 }
