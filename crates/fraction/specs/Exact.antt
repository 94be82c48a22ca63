-- Exact fractions in lowest terms, and the operations on them.
-- Main definitions: `ℚ`, `frac`, `worth`, `◌+ℚ◌`, `◌-ℚ◌`, `◌*ℚ◌`, `◌÷ℚ◌`, `eq_ℚ`. Assumes nothing.
use Rattle.std.specs.Prelude.{◌≡◌, Bool, false, ◌&&◌, ℕ, zero, suc, ◌*◌, ◌/◌, ◌^◌, ◌<◌, ℤ, pos, negsuc, neg_ℤ, nat_abs, ◌+ℤ◌, ◌*ℤ◌, eqb}
use Rattle.std.proofs.Common.{ap, ◌∙◌, zero-lt-suc}
use Rattle.fraction.specs.declared.Scaled.{Scaled}
use Rattle.whole.specs.Gcd.{gcd}
use Rattle.whole.specs.Signed.{signed}
use Rattle.whole.proofs.Divisors.{gcd_lowered, gcd_one, gcd_positive, lowered_positive}
use Rattle.whole.proofs.Sizes.{size_negated, size_signed}

-- 01, The run: "A fraction is in lowest terms: the greatest common divisor of numerator and denominator is 1, and zero is 0/1."
pub record ℚ : Type 0 where
  pub num : ℤ
  pub den : ℕ
  pub positive : 0 < den
  pub lowest : gcd (nat_abs num) den ≡ 1

-- the whole number n, as n/1
unfoldable pub whole : ℤ → ℚ
whole n = record { num = n; den = 1; positive = zero-lt-suc 0; lowest = gcd_one (nat_abs n) }

-- "zero is 0/1"
unfoldable pub zero_ℚ : ℚ
zero_ℚ = whole (pos 0)

unfoldable pub one_ℚ : ℚ
one_ℚ = whole (pos 1)

-- n / d in lowest terms: both divided by their greatest common divisor. Zero where d is 0, which no operation below makes of fractions.
unfoldable pub frac : ℤ → (d : ℕ) → ℚ
frac n zero = zero_ℚ
frac n (suc d) =
    let common = gcd (nat_abs n) (suc d) in
    record {
      num = signed n (nat_abs n / common);
      den = suc d / common;
      positive = lowered_positive (nat_abs n) (zero-lt-suc d);
      lowest = ap (λ size. gcd size (suc d / common)) (size_signed n (nat_abs n / common)) ∙ gcd_lowered (nat_abs n) (suc d) (gcd_positive (nat_abs n) (zero-lt-suc d));
    }

-- 01, The problem record: "mantissa / 2^shift"
unfoldable pub worth : Scaled → ℚ
worth s = frac s.mantissa (2 ^ s.shift)

infixl 70 ◌+ℚ◌ ◌-ℚ◌
infixl 71 ◌*ℚ◌ ◌÷ℚ◌
unfoldable pub ◌+ℚ◌ : ℚ → ℚ → ℚ
a +ℚ b = frac (a.num *ℤ pos b.den +ℤ b.num *ℤ pos a.den) (a.den * b.den)

unfoldable pub neg_ℚ : ℚ → ℚ
neg_ℚ a = record { num = neg_ℤ a.num; den = a.den; positive = a.positive; lowest = ap (λ size. gcd size a.den) (size_negated a.num) ∙ a.lowest }

unfoldable pub ◌-ℚ◌ : ℚ → ℚ → ℚ
a -ℚ b = a +ℚ neg_ℚ b

unfoldable pub ◌*ℚ◌ : ℚ → ℚ → ℚ
a *ℚ b = frac (a.num *ℤ b.num) (a.den * b.den)

-- 1 / a, with the sign of a; 0 for 0
unfoldable pub inverse : ℚ → ℚ
inverse a = frac (signed a.num a.den) (nat_abs a.num)

unfoldable pub ◌÷ℚ◌ : ℚ → ℚ → ℚ
a ÷ℚ b = a *ℚ inverse b

-- the test of equality: in lowest terms, the same two numbers
unfoldable pub eq_ℤ : ℤ → ℤ → Bool
eq_ℤ (pos m) (pos n) = eqb m n
eq_ℤ (pos m) (negsuc n) = false
eq_ℤ (negsuc m) (pos n) = false
eq_ℤ (negsuc m) (negsuc n) = eqb m n

unfoldable pub eq_ℚ : ℚ → ℚ → Bool
eq_ℚ a b = eq_ℤ a.num b.num && eqb a.den b.den
