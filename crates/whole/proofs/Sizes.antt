-- Sizes of signed numbers, and a size with the sign of another number.
-- Main results: `size_negated`, `size_signed`, `size_product`, `signed_size`, `signed_product`, `signed_square`. Assume nothing.
use mathlib.Core.Path.{◌≡◌, refl, sym, ap, ◌∙◌}
use Prim.Native.Nat.{ℕ, zero, suc, ◌*◌}
use native.Mathlib.Nat.{suc-ne-zero}
use lib.IntN.{ℤ, pos, negsuc, neg_ℤ, nat_abs, ◌*ℤ◌, neg_ℤ-neg_ℤ}
use Rattle.whole.specs.Signed.{signed}
use Rattle.whole.proofs.Commutative.{neg_mul, mul_neg}
use Rattle.whole.proofs.Ring.{ℤ-ring}

pub size_negated : (z : ℤ) → nat_abs (neg_ℤ z) ≡ nat_abs z
size_negated (pos zero) = refl
size_negated (pos (suc n)) = refl
size_negated (negsuc n) = refl

pub size_signed : (z : ℤ) (size : ℕ) → nat_abs (signed z size) ≡ size
unfolding signed
size_signed (pos n) size = refl
size_signed (negsuc n) zero = refl
size_signed (negsuc n) (suc size) = refl

-- The size of a product is the product of the sizes.
pub size_product : (y z : ℤ) → nat_abs (y *ℤ z) ≡ nat_abs y * nat_abs z
size_product (pos m) (pos n) = refl
size_product (pos m) (negsuc n) = size_negated (pos (m * suc n))
size_product (negsuc m) (pos n) = size_negated (pos (suc m * n))
size_product (negsuc m) (negsuc n) = refl

-- Only zero has the size 0.
pub size_zero : (z : ℤ) → nat_abs z ≡ 0 → z ≡ pos 0
size_zero (pos n) h = ap pos h
size_zero (negsuc n) h = absurd (suc-ne-zero n h)

-- A number is its size with its sign.
pub signed_size : (z : ℤ) → signed z (nat_abs z) ≡ z
unfolding signed
signed_size (pos n) = refl
signed_size (negsuc n) = refl

-- A natural factor of a size comes out of the sign.
pub signed_product : (z : ℤ) (m n : ℕ) → signed z (m * n) ≡ signed z m *ℤ pos n
unfolding signed
signed_product (pos k) m n = refl
signed_product (negsuc k) m n = sym (neg_mul ℤ-ring (pos m) (pos n))

-- A number times a size with its own sign is not negative.
pub signed_square : (z : ℤ) (size : ℕ) → z *ℤ signed z size ≡ pos (nat_abs z * size)
unfolding signed
signed_square (pos n) size = refl
signed_square (negsuc n) size = mul_neg ℤ-ring (negsuc n) (pos size) ∙ neg_ℤ-neg_ℤ (pos (suc n * size))
