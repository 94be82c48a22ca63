-- Fractions by their cross products: when two are equal, and what the operations make.
-- Main results: `ℚ-path`, `Is`, `Is-equal`, `Is-unique`, `frac_is`, `plus_is`, `times_is`, `negated_is`, `frac_equal`, `frac_itself`. Assume nothing.
use mathlib.Core.Path.{◌≡◌, refl, sym, ap, ◌∙◌}
use mathlib.Core.HLevel.{is_prop→PathP}
use mathlib.Core.List.{[], ◌∷◌}
use Prim.Native.Nat.{ℕ, zero, suc, ◌*◌, ◌/◌, ◌<◌}
use native.Mathlib.Bridge.{le_prop}
use native.Mathlib.Nat.{ℕ_set, mul-pos, div-mul_cancel}
use native.Mathlib.Omega.{arith}
use lib.IntN.{ℤ, pos, neg_ℤ, nat_abs, ◌+ℤ◌, ◌*ℤ◌}
use Rattle.whole.specs.Gcd.{gcd}
use Rattle.whole.specs.Signed.{signed}
use Rattle.whole.proofs.Commutative.{combined, neg_mul}
use Rattle.whole.proofs.Divisors.{gcd_divides_left, gcd_divides_right}
use Rattle.whole.proofs.Lowest.{lowest_unique_ℤ, mul_cancel_ℤ}
use Rattle.whole.proofs.Ring.{ℤ-ring, readsℤ}
use Rattle.whole.proofs.Sizes.{signed_size, signed_product}
use Rattle.whole.proofs.Solver.{ring}
use Rattle.fraction.specs.Exact.{ℚ, frac, ◌+ℚ◌, neg_ℚ, ◌*ℚ◌}

-- Fractions with the same numerator and denominator are equal.
pub ℚ-path : {a b : ℚ} → a.num ≡ b.num → a.den ≡ b.den → a ≡ b
ℚ-path {a} {b} p q = λ i. record {
  num = p i;
  den = q i;
  positive = is_prop→PathP (λ i. 0 < q i) (λ i. le_prop) a.positive b.positive i;
  lowest = is_prop→PathP (λ i. gcd (nat_abs (p i)) (q i) ≡ 1) (λ i. ℕ_set _ _) a.lowest b.lowest i;
}

-- x is n / d, by the cross product.
pub record Is (x : ℚ) (n : ℤ) (d : ℕ) : Type 0 where
  pub positive : 0 < d
  pub cross : x.num *ℤ pos d ≡ n *ℤ pos x.den

-- Fractions with equal cross products are equal.
pub Is-equal : {x y : ℚ} {m n : ℤ} {d e : ℕ} → Is x m d → Is y n e → m *ℤ pos e ≡ n *ℤ pos d → x ≡ y
Is-equal {x} {y} {m} {n} {d} {e} h k same =
    let crossed : x.num *ℤ pos y.den ≡ y.num *ℤ pos x.den =
    mul_cancel_ℤ (mul-pos h.positive k.positive) _ _
    (combined ℤ-ring (pos (y.den * e)) h.cross (combined ℤ-ring (neg_ℤ (pos (x.den * d))) k.cross (combined ℤ-ring (pos (x.den * y.den)) same
    (ring ℤ-ring (x.num ∷ y.num ∷ pos x.den ∷ pos y.den ∷ m ∷ n ∷ pos d ∷ pos e ∷ []) (search readsℤ depth 20) refl))))
    in
    let both = lowest_unique_ℤ {m = x.num} {n = y.num} x.positive x.lowest y.lowest crossed in
    ℚ-path both.0 both.1

-- What n / d is, by the cross product, is one fraction.
pub Is-unique : {x y : ℚ} {n : ℤ} {d : ℕ} → Is x n d → Is y n d → x ≡ y
Is-unique h k = Is-equal h k refl

-- Each fraction is its numerator over its denominator.
pub self : (x : ℚ) → Is x x.num x.den
self x = record { positive = x.positive; cross = refl }

-- A fraction is also what has the same cross product.
Is-also : {x : ℚ} {m n : ℤ} {d e : ℕ} → Is x m d → 0 < e → m *ℤ pos e ≡ n *ℤ pos d → Is x n e
Is-also {x} {m} {n} {d} {e} h above same = record {
  positive = above;
  cross = mul_cancel_ℤ h.positive _ _
      (combined ℤ-ring (pos e) h.cross (combined ℤ-ring (pos x.den) same
      (ring ℤ-ring (x.num ∷ pos x.den ∷ m ∷ n ∷ pos d ∷ pos e ∷ []) (search readsℤ depth 20) refl)));
}

-- `frac n d` is n / d.
pub frac_is : (n : ℤ) {d : ℕ} → 0 < d → Is (frac n d) n d
unfolding frac
frac_is n {d = zero} h = absurd (omega arith)
frac_is n {d = suc d} h =
    let common = gcd (nat_abs n) (suc d) in
    let size = nat_abs n / common in
    let below = suc d / common in
    let top : signed n size *ℤ pos common ≡ n =
    sym (signed_product n size common) ∙ ap (signed n) (div-mul_cancel common (gcd_divides_left (nat_abs n) (suc d))) ∙ signed_size n
    in
    let bottom : pos (below * common) ≡ pos (suc d) = ap pos (div-mul_cancel common (gcd_divides_right (nat_abs n) (suc d))) in
    record {
      positive = h;
      cross = ap (λ x. signed n size *ℤ x) (sym bottom)
          ∙ ring ℤ-ring (signed n size ∷ pos below ∷ pos common ∷ []) (search readsℤ depth 20) refl
          ∙ ap (λ x. x *ℤ pos below) top;
    }

-- Sums, products and opposites of fractions, by the cross product.
pub plus_is : {x y : ℚ} {m n : ℤ} {d e : ℕ} → Is x m d → Is y n e → Is (x +ℚ y) (m *ℤ pos e +ℤ n *ℤ pos d) (d * e)
unfolding ◌+ℚ◌
plus_is {x} {y} {m} {n} {d} {e} h k = Is-also (frac_is _ (mul-pos x.positive y.positive)) (mul-pos h.positive k.positive)
    (combined ℤ-ring (pos (y.den * e)) h.cross (combined ℤ-ring (pos (x.den * d)) k.cross
    (ring ℤ-ring (x.num ∷ y.num ∷ pos x.den ∷ pos y.den ∷ m ∷ n ∷ pos d ∷ pos e ∷ []) (search readsℤ depth 20) refl)))

pub times_is : {x y : ℚ} {m n : ℤ} {d e : ℕ} → Is x m d → Is y n e → Is (x *ℚ y) (m *ℤ n) (d * e)
unfolding ◌*ℚ◌
times_is {x} {y} {m} {n} {d} {e} h k = Is-also (frac_is _ (mul-pos x.positive y.positive)) (mul-pos h.positive k.positive)
    (combined ℤ-ring (y.num *ℤ pos e) h.cross (combined ℤ-ring (m *ℤ pos x.den) k.cross
    (ring ℤ-ring (x.num ∷ y.num ∷ pos x.den ∷ pos y.den ∷ m ∷ n ∷ pos d ∷ pos e ∷ []) (search readsℤ depth 20) refl)))

pub negated_is : {x : ℚ} {m : ℤ} {d : ℕ} → Is x m d → Is (neg_ℚ x) (neg_ℤ m) d
unfolding neg_ℚ
negated_is {x} {m} {d} h = record {
  positive = h.positive;
  cross = neg_mul ℤ-ring x.num (pos d) ∙ ap neg_ℤ h.cross ∙ sym (neg_mul ℤ-ring m (pos x.den));
}

-- `frac` is determined by the cross product.
pub frac_equal : (m n : ℤ) {d e : ℕ} → 0 < d → 0 < e → m *ℤ pos e ≡ n *ℤ pos d → frac m d ≡ frac n e
frac_equal m n left right same = Is-equal (frac_is m left) (frac_is n right) same

-- A fraction is made of its own numerator and denominator.
pub frac_itself : (x : ℚ) → frac x.num x.den ≡ x
frac_itself x = Is-unique (frac_is x.num x.positive) (self x)
