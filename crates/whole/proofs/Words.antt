-- What signed words hold: sizes of sums and products, and when a result fits.
-- Main results: `fits_sum`, `fits_product`, `fits_opposite`, `below_zero`, `signed_below`, `signed_upward`. Assume nothing.
use mathlib.Core.Bool.{Bool, true, false, not, cond}
use mathlib.Core.Path.{◌≡◌, refl, sym, ap, ◌∙◌, subst}
use Prim.Native.Nat.{ℕ, suc, ◌+◌, ◌-◌, ◌*◌, ◌^◌, ◌<◌, ◌≤◌}
use native.Mathlib.Nat.{mul-le-mul}
use native.Mathlib.Omega.{arith}
use lib.Dec.{T, ltb}
use lib.IntN.{ℤ, pos, negsuc, neg_ℤ, nat_abs, ◌+ℤ◌, ◌-ℤ◌, ◌*ℤ◌, +ℤ_idl}
use lib.Signed.{mag, lt_z, non_neg}
use borrow.Author.Tests.{le-ltb}
use mir.Facts.{to_z-of_z}
use mir.Syntax.{Width, w32, w64}
use mir.Val.{Fits, SFits, hbits, to_z, of_z}
use Rattle.whole.specs.Signed.{signed}
use Rattle.whole.proofs.Sizes.{size_negated, size_product}

mag_within : (z : ℤ) → mag z ≤ nat_abs z
mag_within (pos n) = omega arith
mag_within (negsuc n) = omega arith

size_within : (z : ℤ) → nat_abs z ≤ suc (mag z)
size_within (pos n) = omega arith
size_within (negsuc n) = omega arith

size_either : (t : Bool) (x y n : ℕ) → suc x ≤ n → y ≤ n → nat_abs (cond t (negsuc x) (pos y)) ≤ n
size_either true x y n h k = h
size_either false x y n h k = k

-- The size of a sum is at most the sum of the sizes.
pub size_sum : (a b : ℤ) → nat_abs (a +ℤ b) ≤ nat_abs a + nat_abs b
size_sum (pos a) (pos b) = omega arith
size_sum (pos a) (negsuc b) = size_either (ltb a (suc b)) (suc b - suc a) (a - suc b) (a + suc b) (omega arith) (omega arith)
size_sum (negsuc a) (pos b) = size_either (ltb b (suc a)) (suc a - suc b) (b - suc a) (suc a + b) (omega arith) (omega arith)
size_sum (negsuc a) (negsuc b) = omega arith

-- a number whose size is below half the word's range fits
pub fits_size : (w : Width) (z : ℤ) → nat_abs z < 2 ^ hbits w → SFits w z
fits_size w z h = let within = mag_within z in record { sfits = omega arith }

-- the size of a number that a word of 32 bits holds
pub size_word : {z : ℤ} → SFits w32 z → nat_abs z ≤ 2 ^ 31
size_word {z} h = let bound = h.sfits in omega (arith, size_within z)

-- A sum of two numbers below 2^62, and a product of two words of 32 bits, fit 64 bits.
pub fits_sum : (a b : ℤ) → nat_abs a < 2 ^ 62 → nat_abs b < 2 ^ 62 → SFits w64 (a +ℤ b)
fits_sum a b h k = fits_size w64 (a +ℤ b) (omega (arith, size_sum a b))

pub product_within : {a b : ℤ} → SFits w32 a → SFits w32 b → nat_abs (a *ℤ b) ≤ 2 ^ 62
product_within {a} {b} h k =
    let most : nat_abs a * nat_abs b ≤ 2 ^ 31 * 2 ^ 31 = mul-le-mul (size_word h) (size_word k) in
    omega (arith, size_product a b)

pub fits_product : {a b : ℤ} → SFits w32 a → SFits w32 b → SFits w64 (a *ℤ b)
fits_product {a} {b} h k = fits_size w64 (a *ℤ b) (omega (arith, product_within h k))

pub opposite_is : (z : ℤ) → pos 0 -ℤ z ≡ neg_ℤ z
opposite_is z = +ℤ_idl (neg_ℤ z)

pub fits_opposite : (w : Width) (z : ℤ) → nat_abs z < 2 ^ hbits w → SFits w (pos 0 -ℤ z)
fits_opposite w z h = subst (λ x. SFits w x) (sym (opposite_is z)) (fits_size w (neg_ℤ z) (omega (arith, size_negated z)))

-- the machine's test against 0
pub below_zero : (z : ℤ) → lt_z z (pos 0) ≡ not (non_neg z)
below_zero (pos n) = le-ltb n 0 (omega arith)
below_zero (negsuc n) = refl

pub signed_below : (z : ℤ) (size : ℕ) → not (non_neg z) ≡ true → signed z size ≡ neg_ℤ (pos size)
unfolding signed
signed_below (pos n) size h = let z : ◌≡◌ {A = ℕ} 0 1 = cc in absurd (omega arith)
signed_below (negsuc n) size h = refl

pub signed_upward : (z : ℤ) (size : ℕ) → not (non_neg z) ≡ false → signed z size ≡ pos size
unfolding signed
signed_upward (pos n) size h = refl
signed_upward (negsuc n) size h = let z : ◌≡◌ {A = ℕ} 0 1 = cc in absurd (omega arith)

-- what is read back of a word
pub kept : (w : Width) (z : ℤ) → mag z < 2 ^ hbits w → to_z w (of_z w z) ≡ z
kept w z h = to_z-of_z (record { sfits = h })

-- what is read back of a result that is known
pub read_back : {w : Width} {r z : ℤ} → r ≡ z → SFits w z → to_z w (of_z w r) ≡ z
read_back {w} e f = ap (λ x. to_z w (of_z w x)) e ∙ to_z-of_z f

-- a number that is not below zero, as a size
pub size_upward : (z : ℤ) → nat_abs z < 2 ^ 63 → not (non_neg z) ≡ false → T (non_neg z) × Fits w64 (nat_abs z)
size_upward (pos n) h e = (tt, record { fits = omega arith })
size_upward (negsuc n) h e = let z : ◌≡◌ {A = ℕ} 0 1 = cc in absurd (omega arith)

-- the opposite of a number below zero, as a size
pub size_opposite : (z : ℤ) → nat_abs z < 2 ^ 63 → not (non_neg z) ≡ true → T (non_neg (neg_ℤ z)) × Fits w64 (nat_abs (neg_ℤ z))
size_opposite (pos n) h e = let z : ◌≡◌ {A = ℕ} 0 1 = cc in absurd (omega arith)
size_opposite (negsuc n) h e = (tt, record { fits = omega arith })
