-- The operations on good structs, and the rule's on their exact fractions.
-- Main results: `times_is`, `plus_is`, `negated_is`, `inverse_is`, `inverse_zero`, `lowest_stands`. Assume nothing.
use mathlib.Core.Path.{◌≡◌, sym, ap, ap₂, ◌∙◌}
use Prim.Native.Nat.{ℕ, ◌*◌, ◌/◌, ◌^◌, ◌<◌, ◌≤◌}
use native.Mathlib.Nat.{mul-le-mul, div-le_self}
use native.Mathlib.Omega.{arith}
use lib.IntN.{ℤ, pos, neg_ℤ, nat_abs, ◌+ℤ◌, ◌*ℤ◌}
use mir.Syntax.{w32}
use mir.Val.{SFits}
use Rattle.whole.specs.Gcd.{gcd}
use Rattle.whole.specs.Signed.{signed}
use Rattle.whole.proofs.Lowest.{gcd_symmetric}
use Rattle.whole.proofs.Sizes.{size_negated, size_product, size_signed, size_zero}
use Rattle.fraction.specs.Exact.{frac, whole, zero_ℚ, neg_ℚ, inverse, ◌+ℚ◌, ◌*ℚ◌}
use Rattle.fraction.specs.Limits.{limit, tested, plus, times}
use Rattle.fraction.specs.declared.Fraction.{Fraction}
use Rattle.fraction_reduce.specs.Values.{value, Good, Stands}
use Rattle.fraction_reduce.proofs.Linked.{stands}
use Rattle.fraction_reduce.proofs.Lowest.{frac_num, frac_den, frac_size, lowest_num, lowest_den, value_num, value_den, zero_den}
use Rattle.whole.proofs.Words.{fits_size}

-- a word of 32 bits holds the numbers of a good struct
pub good_num : {f : Fraction} → Good f → SFits w32 f.num
unfolding limit
good_num {f} good = fits_size w32 f.num (omega arith)

pub good_den : {f : Fraction} → Good f → SFits w32 f.den
unfolding limit
good_den {f} good = fits_size w32 f.den (omega arith)

-- The product of two numbers within the limits leaves room for a sum of two such products.
pub product_below : (x y : ℤ) → nat_abs x ≤ limit → nat_abs y ≤ limit → nat_abs (x *ℤ y) < 2 ^ 62
unfolding limit
product_below x y h k =
    let most : nat_abs x * nat_abs y ≤ 2147483647 * 2147483647 = mul-le-mul h k in
    omega (arith, size_product x y)

-- a good denominator, as the rule has it
den_is : {f : Fraction} → Good f → pos (value f).den ≡ f.den
den_is good = ap pos (value_den good) ∙ sym good.upward

-- What the rule makes of two good structs, from the structs' own numbers.
pub times_is : {a b : Fraction} {n : ℤ} {d : ℕ} → Good a → Good b → n ≡ a.num *ℤ b.num → d ≡ nat_abs a.den * nat_abs b.den → tested (frac n d) ≡ times (value a) (value b)
unfolding times ◌*ℚ◌
times_is p q n d =
    ap tested (ap₂ frac (n ∙ sym (ap₂ ◌*ℤ◌ (value_num p) (value_num q))) (d ∙ sym (ap₂ ◌*◌ (value_den p) (value_den q))))

pub plus_is : {a b : Fraction} {n : ℤ} {d : ℕ} → Good a → Good b → n ≡ a.num *ℤ b.den +ℤ b.num *ℤ a.den → d ≡ nat_abs a.den * nat_abs b.den → tested (frac n d) ≡ plus (value a) (value b)
unfolding plus ◌+ℚ◌
plus_is p q n d =
    ap tested
    (ap₂ frac
    (n ∙ sym (ap₂ ◌+ℤ◌ (ap₂ ◌*ℤ◌ (value_num p) (den_is q)) (ap₂ ◌*ℤ◌ (value_num q) (den_is p))))
    (d ∙ sym (ap₂ ◌*◌ (value_den p) (value_den q))))

-- A struct with the opposite numerator stands for the opposite.
pub negated_is : {a f : Fraction} → Good a → f.num ≡ neg_ℤ a.num → f.den ≡ a.den → Stands f (neg_ℚ (value a))
unfolding neg_ℚ
negated_is {a} good n d =
    stands (neg_ℚ (value a)) (n ∙ ap neg_ℤ (sym (value_num good))) (d ∙ sym (den_is good))
    (omega (arith, size_negated (value a).num, ap nat_abs (value_num good)))
    (omega (arith, value_den good))

-- A struct with the two numbers exchanged, and the sign kept above, stands for the inverse.
pub inverse_is : {a f : Fraction} → Good a → 0 < nat_abs a.num → f.num ≡ signed a.num (nat_abs a.den) → f.den ≡ pos (nat_abs a.num) → Stands f (inverse (value a))
unfolding inverse
inverse_is {a} good above n d =
    let v : inverse (value a) ≡ frac (signed a.num (nat_abs a.den)) (nat_abs a.num) =
    ap₂ (λ x y. frac (signed x y) (nat_abs x)) (value_num good) (value_den good)
    in
    let size = size_signed a.num (nat_abs a.den) in
    let low : gcd (nat_abs (signed a.num (nat_abs a.den))) (nat_abs a.num) ≡ 1 =
    ap (λ x. gcd x (nat_abs a.num)) size ∙ gcd_symmetric (nat_abs a.den) (nat_abs a.num) ∙ good.lowest
    in
    let num = lowest_num (signed a.num (nat_abs a.den)) (nat_abs a.num) above low in
    let den = lowest_den (signed a.num (nat_abs a.den)) (nat_abs a.num) above low in
    rw v (stands (frac (signed a.num (nat_abs a.den)) (nat_abs a.num)) (n ∙ sym num) (d ∙ ap pos (sym den))
    (omega (arith, ap nat_abs num)) (omega arith))

-- 0 is its own inverse by the rule.
pub inverse_zero : {a : Fraction} → Good a → nat_abs a.num ≡ 0 → Stands a (inverse (value a))
unfolding inverse frac zero_ℚ whole limit
inverse_zero {a} good none =
    let v : inverse (value a) ≡ frac (signed a.num (nat_abs a.den)) 0 =
    ap₂ (λ x y. frac (signed x y) (nat_abs x)) (value_num good) (value_den good) ∙ ap (frac (signed a.num (nat_abs a.den))) none
    in
    let zero = size_zero a.num none in
    rw v (stands zero_ℚ zero (zero_den good zero) (omega arith) (omega arith))

-- A struct with two numbers divided by their greatest common divisor stands for their fraction.
pub lowest_stands : {f : Fraction} (n : ℤ) (d : ℕ) → 0 < d → f.num ≡ signed n (nat_abs n / gcd (nat_abs n) d) → f.den ≡ pos (d / gcd (nat_abs n) d) → nat_abs n ≤ limit → d ≤ limit → Stands f (frac n d)
lowest_stands n d h num den wide deep =
    let common = gcd (nat_abs n) d in
    stands (frac n d) (num ∙ sym (frac_num n d h)) (den ∙ ap pos (sym (frac_den n d h)))
    (omega (arith, frac_size n d h, div-le_self (nat_abs n) common))
    (omega (arith, frac_den n d h, div-le_self d common))
