-- What the numerator of a sum is.
-- Main definition: `Cross`. Assumes nothing.
use Rattle.std.specs.Prelude.{◌≡◌, ◌<◌, ◌^◌, ℤ, nat_abs, ◌+ℤ◌, ◌*ℤ◌}
use Rattle.fraction.specs.declared.Fraction.{Fraction}

-- The numerator of a sum over the product of the denominators; 64 bits hold it.
pub record Cross (a b : Fraction) (r : ℤ) : Type 0 where
  pub is : r ≡ a.num *ℤ b.den +ℤ b.num *ℤ a.den
  pub small : nat_abs r < 2 ^ 63
