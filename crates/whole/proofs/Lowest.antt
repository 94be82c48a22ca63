-- Lowest terms: numbers with no common divisor but 1, and that a fraction has only one pair of them.
-- Main results: `euclid_lemma`, `gcd_symmetric`, `lowest_unique`, `lowest_unique_ℤ`. Assume nothing.
use mathlib.Core.Path.{◌≡◌, sym, ap, ◌∙◌}
use Prim.Native.Nat.{ℕ, ◌*◌, ◌<◌, ◌∣◌}
use native.Mathlib.Nat.{dvd-mul_left, dvd-mul_right, dvd_antisymm, mul-one, one-mul, zero-mul, eq_of_mul-eq-mul_right}
use lib.IntN.{ℤ, pos, nat_abs, ◌*ℤ◌}
use Rattle.whole.specs.Gcd.{gcd}
use Rattle.whole.proofs.Commutative.{mul_right_cancel}
use Rattle.whole.proofs.Divisors.{gcd_divides_left, gcd_divides_right, gcd_greatest}
use Rattle.whole.proofs.Ring.{ℤ-ring}
use Rattle.whole.proofs.Sizes.{size_product, size_zero}

-- What divides two numbers divides their greatest common divisor.
pub gcd_common : (a b d : ℕ) → d ∣ a → d ∣ b → d ∣ gcd a b
gcd_common a b d p q = rw mul-one at (gcd_greatest a b 1 d (rw mul-one p) (rw mul-one q))

-- The greatest common divisor does not depend on the order of the two numbers.
pub gcd_symmetric : (a b : ℕ) → gcd a b ≡ gcd b a
gcd_symmetric a b = dvd_antisymm (turned a b) (turned b a)
  where
    turned : (a b : ℕ) → gcd a b ∣ gcd b a
    turned a b = gcd_common b a (gcd a b) (gcd_divides_right a b) (gcd_divides_left a b)

-- Euclid's lemma: what divides a product and has no common divisor with its first factor divides the second.
pub euclid_lemma : (a b c : ℕ) → gcd a b ≡ 1 → a ∣ b * c → a ∣ c
euclid_lemma a b c coprime h = rw (coprime, one-mul) at (gcd_greatest a b c a (dvd-mul_right a c) h)

-- Lowest terms are unique: two fractions a / b and c / d in lowest terms with equal cross products are the same.
pub lowest_unique : {a b c d : ℕ} → 0 < b → gcd a b ≡ 1 → gcd c d ≡ 1 → a * d ≡ c * b → (a ≡ c) × (b ≡ d)
lowest_unique {a} {b} {c} {d} positive low low' cross =
    let forth : b ∣ d = euclid_lemma b a d (gcd_symmetric b a ∙ low) (rw cross (dvd-mul_left b c)) in
    let back : d ∣ b = euclid_lemma d c b (gcd_symmetric d c ∙ low') (rw (← cross) (dvd-mul_left d a)) in
    let same : b ≡ d = dvd_antisymm forth back in
    (eq_of_mul-eq-mul_right b positive a c (ap (λ x. a * x) same ∙ cross), same)

-- A positive factor cancels.
pub mul_cancel_ℤ : {d : ℕ} → 0 < d → (m n : ℤ) → m *ℤ pos d ≡ n *ℤ pos d → m ≡ n
mul_cancel_ℤ {d} positive = mul_right_cancel ℤ-ring (pos d)
    (λ z h. size_zero z (eq_of_mul-eq-mul_right d positive (nat_abs z) 0 (sym (size_product z (pos d)) ∙ ap nat_abs h ∙ sym (zero-mul d))))

-- The same for signed numerators.
pub lowest_unique_ℤ : {m n : ℤ} {b d : ℕ} → 0 < b → gcd (nat_abs m) b ≡ 1 → gcd (nat_abs n) d ≡ 1 → m *ℤ pos d ≡ n *ℤ pos b → (m ≡ n) × (b ≡ d)
lowest_unique_ℤ {m} {n} {b} {d} positive low low' cross =
    let same : b ≡ d = (lowest_unique positive low low' (sym (size_product m (pos d)) ∙ ap nat_abs cross ∙ size_product n (pos b))).1 in
    (mul_cancel_ℤ positive m n (ap (λ x. m *ℤ pos x) same ∙ cross), same)
