-- The test of a place: what it takes to be a fraction in lowest terms within the limits.
-- Main results: `fraction_is`, `fraction_not_low`, `fraction_not_wide`, `fraction_by_gcd`. Assume nothing.
use mathlib.Core.Path.{◌≡◌, refl}
use mathlib.Core.Bool.{Bool, true, false, ◌&&◌}
use Prim.Native.Nat.{◌≤◌, ◌<◌}
use native.Mathlib.Omega.{arith}
use lib.Dec.{eqb, leb}
use lib.IntN.{ℤ, pos, negsuc, nat_abs}
use lib.Signed.{le_z, lt_z}
use mir.Syntax.{w32}
use mir.Val.{SFits}
use borrow.Author.Tests.{leb-true, eqb-true, le-leb, lt-leb, ltb-true, ltb-false}
use Rattle.whole.specs.Gcd.{gcd}
use Rattle.fraction.specs.Limits.{limit}
use Rattle.rules_listing.specs.Listing.{is_fraction}

pub and_true : (a b : Bool) → (a && b) ≡ true → (a ≡ true) × (b ≡ true)
and_true true b h = (refl, h)
and_true false b h = cc

pub and_false : (a : Bool) → (a && false) ≡ false
and_false true = refl
and_false false = refl

-- What the test says of the two numbers.
pub record Shown (num den : ℤ) : Type 0 where
  pub least : 1 ≤ nat_abs den
  pub below : nat_abs den ≤ limit
  pub above : nat_abs num ≤ limit
  pub lowest : gcd (nat_abs num) (nat_abs den) ≡ 1

one_least : (den : ℤ) → le_z (pos 1) den ≡ true → 1 ≤ nat_abs den
one_least (pos n) h = leb-true 1 n h
one_least (negsuc n) h = omega arith

pub fraction_is : (num den : ℤ) → is_fraction num den ≡ true → Shown num den
unfolding is_fraction
fraction_is num den h =
    let (three, lowest) = and_true _ (eqb (gcd (nat_abs num) (nat_abs den)) 1) h in
    let (two, above) = and_true _ (leb (nat_abs num) limit) three in
    let (one, below) = and_true (le_z (pos 1) den) (leb (nat_abs den) limit) two in
    record {
      least = one_least den one;
      below = leb-true (nat_abs den) limit below;
      above = leb-true (nat_abs num) limit above;
      lowest = eqb-true (gcd (nat_abs num) (nat_abs den)) 1 lowest;
    }

low : (den : ℤ) → lt_z den (pos 1) ≡ true → le_z (pos 1) den ≡ false
low (pos n) h = lt-leb 1 n (omega (arith, ltb-true n 1 h))
low (negsuc n) h = refl

not_low : (den : ℤ) → lt_z den (pos 1) ≡ false → le_z (pos 1) den ≡ true
not_low (pos n) h = le-leb 1 n (omega (arith, ltb-false n 1 h))
not_low (negsuc n) h = cc

-- A denominator below 1 is none.
pub fraction_not_low : (num den : ℤ) → lt_z den (pos 1) ≡ true → is_fraction num den ≡ false
unfolding is_fraction
fraction_not_low num den h = rw (low den h)

-- Nor is a numerator beyond the limit.
pub fraction_not_wide : (num den : ℤ) → limit < nat_abs num → is_fraction num den ≡ false
unfolding is_fraction
fraction_not_wide num den h = rw (lt-leb (nat_abs num) limit h, and_false)

-- a positive number of 32 bits is within the limit
word_below : (den : ℤ) → lt_z den (pos 1) ≡ false → SFits w32 den → nat_abs den ≤ limit
unfolding limit
word_below (pos n) h fits = let bound = fits.sfits in omega arith
word_below (negsuc n) h fits = cc

-- Otherwise the greatest common divisor decides.
pub fraction_by_gcd : (num den : ℤ) → lt_z den (pos 1) ≡ false → SFits w32 den → nat_abs num ≤ limit → is_fraction num den ≡ eqb (gcd (nat_abs num) (nat_abs den)) 1
unfolding is_fraction
fraction_by_gcd num den h fits above = rw (not_low den h, le-leb (nat_abs den) limit (word_below den h fits), le-leb (nat_abs num) limit above)
