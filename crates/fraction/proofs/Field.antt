-- The fractions are a field, and the solver of ring identities for them.
-- Main results: `ℚ-ring`, `readsℚ`, `times_inverse`, `over_times`, `zero_product`, `one_not_zero`, `difference_zero`, `whole_plus`, `whole_times`, `whole_negated`, `whole_injective`. Assume nothing.
use mathlib.Core.Path.{◌≡◌, refl, ap, ◌∙◌}
use mathlib.Core.Logic.{◌≢◌}
use mathlib.Core.List.{List, [], ◌∷◌}
use Prim.Native.Nat.{◌<◌}
use native.Mathlib.Nat.{pos_of_ne-zero, suc-ne-zero}
use lib.IntN.{ℤ, pos, neg_ℤ, nat_abs, ◌+ℤ◌, ◌*ℤ◌}
use Rattle.whole.specs.Signed.{signed}
use Rattle.whole.proofs.Commutative.{Ring, combined, equal_of_difference, mul_zero}
use Rattle.whole.proofs.Ring.{ℤ-ring, readsℤ}
use Rattle.whole.proofs.Sizes.{size_zero, signed_square}
use Rattle.whole.proofs.Solver.{Reading, plus, times, minus, seen, ring, reads}
use Rattle.fraction.specs.Exact.{ℚ, whole, zero_ℚ, one_ℚ, ◌+ℚ◌, neg_ℚ, ◌-ℚ◌, ◌*ℚ◌, inverse, ◌÷ℚ◌}
use Rattle.fraction.proofs.Cross.{Is, Is-equal, self, frac_is, plus_is, times_is, negated_is}

-- what the identity between two cross products is made of
abbrev parts : List ℚ → List ℤ
parts [] = []
parts (a ∷ rest) = a.num ∷ pos a.den ∷ parts rest

-- The sum and the product are associative and commutative, and the product distributes over the sum.
pub plus_assoc : (a b c : ℚ) → a +ℚ b +ℚ c ≡ a +ℚ (b +ℚ c)
plus_assoc a b c =
    Is-equal (plus_is (plus_is (self a) (self b)) (self c)) (plus_is (self a) (plus_is (self b) (self c)))
    (ring ℤ-ring (parts (a ∷ b ∷ c ∷ [])) (search readsℤ depth 20) refl)

pub plus_comm : (a b : ℚ) → a +ℚ b ≡ b +ℚ a
plus_comm a b =
    Is-equal (plus_is (self a) (self b)) (plus_is (self b) (self a))
    (ring ℤ-ring (parts (a ∷ b ∷ [])) (search readsℤ depth 20) refl)

zero_is : Is zero_ℚ (pos 0) 1
unfolding zero_ℚ whole
zero_is = self zero_ℚ

one_is : Is one_ℚ (pos 1) 1
unfolding one_ℚ whole
one_is = self one_ℚ

-- Zero is the unit of the sum, one of the product, and a fraction and its opposite give zero.
pub plus_zero : (a : ℚ) → a +ℚ zero_ℚ ≡ a
plus_zero a =
    Is-equal (plus_is (self a) zero_is) (self a)
    (ring ℤ-ring (parts (a ∷ [])) (search readsℤ depth 20) refl)

pub plus_inverse : (a : ℚ) → a +ℚ neg_ℚ a ≡ zero_ℚ
plus_inverse a =
    Is-equal (plus_is (self a) (negated_is (self a))) zero_is
    (ring ℤ-ring (parts (a ∷ [])) (search readsℤ depth 20) refl)

pub times_assoc : (a b c : ℚ) → a *ℚ b *ℚ c ≡ a *ℚ (b *ℚ c)
times_assoc a b c =
    Is-equal (times_is (times_is (self a) (self b)) (self c)) (times_is (self a) (times_is (self b) (self c)))
    (ring ℤ-ring (parts (a ∷ b ∷ c ∷ [])) (search readsℤ depth 20) refl)

pub times_comm : (a b : ℚ) → a *ℚ b ≡ b *ℚ a
times_comm a b =
    Is-equal (times_is (self a) (self b)) (times_is (self b) (self a))
    (ring ℤ-ring (parts (a ∷ b ∷ [])) (search readsℤ depth 20) refl)

pub times_one : (a : ℚ) → a *ℚ one_ℚ ≡ a
times_one a =
    Is-equal (times_is (self a) one_is) (self a)
    (ring ℤ-ring (parts (a ∷ [])) (search readsℤ depth 20) refl)

pub times_plus : (a b c : ℚ) → a *ℚ (b +ℚ c) ≡ a *ℚ b +ℚ a *ℚ c
times_plus a b c =
    Is-equal (times_is (self a) (plus_is (self b) (self c))) (plus_is (times_is (self a) (self b)) (times_is (self a) (self c)))
    (ring ℤ-ring (parts (a ∷ b ∷ c ∷ [])) (search readsℤ depth 20) refl)

-- The fractions are a commutative ring.
abbrev pub ℚ-ring : Ring ℚ
ℚ-ring = record {
  add = ◌+ℚ◌;
  mul = ◌*ℚ◌;
  neg = neg_ℚ;
  zero = zero_ℚ;
  one = one_ℚ;
  add_assoc = plus_assoc;
  add_comm = plus_comm;
  add_zero = plus_zero;
  add_inverse = plus_inverse;
  mul_assoc = times_assoc;
  mul_comm = times_comm;
  mul_one = times_one;
  mul_add = times_plus;
}

pub times_zero : (a : ℚ) → a *ℚ zero_ℚ ≡ zero_ℚ
times_zero = mul_zero ℚ-ring

-- A difference is the sum with the opposite, and a quotient the product with the inverse, also for the solver.
pub minus_is_plus : (a b : ℚ) → a +ℚ neg_ℚ b ≡ a -ℚ b
unfolding ◌-ℚ◌
minus_is_plus a b = refl

pub over_is_times : (a b : ℚ) → a *ℚ inverse b ≡ a ÷ℚ b
unfolding ◌÷ℚ◌
over_is_times a b = refl

abbrev pub less : {values : List ℚ} (a b : ℚ) → Reading ℚ-ring values a → Reading ℚ-ring values b → Reading ℚ-ring values (a -ℚ b)
less a b r s = seen (minus_is_plus a b) (plus a (neg_ℚ b) r (minus b s))

abbrev pub parted : {values : List ℚ} (a b : ℚ) → Reading ℚ-ring values a → Reading ℚ-ring values (inverse b) → Reading ℚ-ring values (a ÷ℚ b)
parted a b r s = seen (over_is_times a b) (times a (inverse b) r s)

-- What finds the readings over the fractions, called as in the two examples below.
pub ruleset readsℚ = (less, parted, reads)

example_expanded : (a b c : ℚ) → (a -ℚ b) *ℚ (c +ℚ b) ≡ a *ℚ c -ℚ b *ℚ c +ℚ (a -ℚ b) *ℚ b
example_expanded a b c = ring ℚ-ring (a ∷ b ∷ c ∷ []) (search readsℚ depth 20) refl

-- from an equation h, times b
example_combined : (a b c : ℚ) → a +ℚ b ≡ c → a *ℚ b ≡ c *ℚ b -ℚ b *ℚ b
example_combined a b c h = combined ℚ-ring b h (ring ℚ-ring (a ∷ b ∷ c ∷ []) (search readsℚ depth 20) refl)

-- Fractions whose difference is zero are equal.
pub difference_zero : (a b : ℚ) → a -ℚ b ≡ zero_ℚ → a ≡ b
difference_zero a b h = equal_of_difference ℚ-ring a b (minus_is_plus a b ∙ h)

-- A fraction other than zero has a numerator other than 0.
pub size_positive : (a : ℚ) → a ≢ zero_ℚ → 0 < nat_abs a.num
size_positive a h = pos_of_ne-zero (λ none. h (Is-equal (self a) zero_is
    (ap (λ n. n *ℤ pos 1) (size_zero a.num none) ∙ ring ℤ-ring (pos a.den ∷ []) (search readsℤ depth 20) refl)))

-- A fraction other than zero times its inverse is one.
pub times_inverse : (a : ℚ) → a ≢ zero_ℚ → a *ℚ inverse a ≡ one_ℚ
unfolding inverse
times_inverse a h = Is-equal (times_is (self a) (frac_is (signed a.num a.den) (size_positive a h))) one_is
    (ap (λ n. n *ℤ pos 1) (signed_square a.num a.den) ∙ ring ℤ-ring (pos a.den ∷ pos (nat_abs a.num) ∷ []) (search readsℤ depth 20) refl)

-- What is divided by a fraction other than zero, and multiplied by it, is back.
pub over_times : (a b : ℚ) → b ≢ zero_ℚ → (a ÷ℚ b) *ℚ b ≡ a
over_times a b h = combined ℚ-ring a (times_inverse b h) (ring ℚ-ring (a ∷ b ∷ inverse b ∷ []) (search readsℚ depth 20) refl)

-- There are no divisors of zero.
pub zero_product : (a b : ℚ) → a *ℚ b ≡ zero_ℚ → b ≢ zero_ℚ → a ≡ zero_ℚ
zero_product a b none h = combined ℚ-ring (neg_ℚ a) (times_inverse b h)
    (combined ℚ-ring (inverse b) none (ring ℚ-ring (a ∷ b ∷ inverse b ∷ []) (search readsℚ depth 20) refl))

-- Different whole numbers are different fractions.
pub whole_injective : {m n : ℤ} → whole m ≡ whole n → m ≡ n
unfolding whole
whole_injective h = ap (λ x. x.num) h

pub one_not_zero : one_ℚ ≢ zero_ℚ
unfolding one_ℚ zero_ℚ
one_not_zero h = suc-ne-zero 0 (ap nat_abs (whole_injective h))

-- The whole numbers stand among the fractions with their sums, products and opposites.
pub whole_plus : (m n : ℤ) → whole (m +ℤ n) ≡ whole m +ℚ whole n
unfolding whole
whole_plus m n =
    Is-equal (self (whole (m +ℤ n))) (plus_is (self (whole m)) (self (whole n)))
    (ring ℤ-ring (m ∷ n ∷ []) (search readsℤ depth 20) refl)

pub whole_times : (m n : ℤ) → whole (m *ℤ n) ≡ whole m *ℚ whole n
unfolding whole
whole_times m n =
    Is-equal (self (whole (m *ℤ n))) (times_is (self (whole m)) (self (whole n)))
    (ring ℤ-ring (m ∷ n ∷ []) (search readsℤ depth 20) refl)

pub whole_negated : (n : ℤ) → whole (neg_ℤ n) ≡ neg_ℚ (whole n)
unfolding whole
whole_negated n = Is-equal (self (whole (neg_ℤ n))) (negated_is (self (whole n))) refl
