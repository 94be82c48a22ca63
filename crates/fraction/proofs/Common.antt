-- Fractions over a common denominator: their equality, sums, differences and multiples are those of the numerators.
-- Main results: `equal_iff`, `equal_over`, `sum_over`, `difference_over`, `multiple_over`. Assume nothing.
use mathlib.Core.Path.{◌≡◌, refl, sym, ap, ◌∙◌, subst}
use mathlib.Core.Logic.Iff
use mathlib.Core.Logic.{◌↔◌}
use mathlib.Core.List.{[], ◌∷◌}
use Prim.Native.Nat.{ℕ, ◌*◌, ◌<◌}
use lib.IntN.{ℤ, pos, neg_ℤ, ◌+ℤ◌, ◌-ℤ◌, ◌*ℤ◌}
use Rattle.whole.proofs.Commutative.{combined}
use Rattle.whole.proofs.Lowest.{mul_cancel_ℤ}
use Rattle.whole.proofs.Ring.{ℤ-ring, readsℤ, mul_assoc_ℤ}
use Rattle.whole.proofs.Solver.{ring}
use Rattle.fraction.specs.Exact.{ℚ, ◌+ℚ◌, ◌-ℚ◌, ◌*ℚ◌}
use Rattle.fraction.proofs.Cross.{Is, Is-equal, plus_is, times_is, negated_is}

-- one fraction, written in two ways, has equal cross products
Is-crossed : {x : ℚ} {m n : ℤ} {d e : ℕ} → Is x m d → Is x n e → m *ℤ pos e ≡ n *ℤ pos d
Is-crossed {x} {m} {n} {d} {e} h k = mul_cancel_ℤ x.positive _ _
    (combined ℤ-ring (neg_ℤ (pos e)) h.cross (combined ℤ-ring (pos d) k.cross
    (ring ℤ-ring (x.num ∷ pos x.den ∷ m ∷ n ∷ pos d ∷ pos e ∷ []) (search readsℤ depth 20) refl)))

-- Two fractions are equal exactly if their cross products are.
pub equal_iff : {x y : ℚ} {m n : ℤ} {d e : ℕ} → Is x m d → Is y n e → (m *ℤ pos e ≡ n *ℤ pos d) ↔ (x ≡ y)
equal_iff {m = m} {d = d} h k = (Is-equal h k, λ same. Is-crossed (subst (λ z. Is z m d) same h) k)

-- a common positive factor stands or falls on both sides
scaled_iff : {d : ℕ} → 0 < d → (m n : ℤ) → (m ≡ n) ↔ (m *ℤ pos d ≡ n *ℤ pos d)
scaled_iff {d} above m n = (ap (λ z. z *ℤ pos d), mul_cancel_ℤ above m n)

-- Over a common denominator, fractions are equal exactly if the numerators are.
pub equal_over : {x y : ℚ} {m n : ℤ} {d : ℕ} → Is x m d → Is y n d → (m ≡ n) ↔ (x ≡ y)
equal_over {m = m} {n} h k = Iff.trans (scaled_iff h.positive m n) (equal_iff h k)

-- a common factor of numerator and denominator can be left out
Is-lowered : {x : ℚ} {m n : ℤ} {d e : ℕ} → 0 < d → 0 < e → Is x n (d * e) → n ≡ m *ℤ pos e → Is x m d
Is-lowered {x} {m} {n} {d} {e} above factor h same = record {
  positive = above;
  cross = mul_cancel_ℤ factor _ _
      (combined ℤ-ring (pos 1) h.cross (combined ℤ-ring (pos x.den) same
      (ring ℤ-ring (x.num ∷ pos x.den ∷ m ∷ n ∷ pos d ∷ pos e ∷ []) (search readsℤ depth 20) refl)));
}

-- Sums and differences over a common denominator.
pub sum_over : {x y : ℚ} {m n : ℤ} {d : ℕ} → Is x m d → Is y n d → Is (x +ℚ y) (m +ℤ n) d
sum_over {m = m} {n} {d} h k = Is-lowered h.positive h.positive (plus_is h k) (ring ℤ-ring (m ∷ n ∷ pos d ∷ []) (search readsℤ depth 20) refl)

pub difference_over : {x y : ℚ} {m n : ℤ} {d : ℕ} → Is x m d → Is y n d → Is (x -ℚ y) (m -ℤ n) d
unfolding ◌-ℚ◌
difference_over h k = sum_over h (negated_is k)

-- A fraction is b / e of another over the same denominator exactly if e times its numerator is b times the other's.
pub multiple_over : {x y z : ℚ} {m n b : ℤ} {d e : ℕ} → Is z n d → Is y b e → Is x m d → (n *ℤ pos e ≡ b *ℤ m) ↔ (z ≡ y *ℚ x)
multiple_over {m = m} {n} {b} {d} {e} h k l =
    let crossed = equal_iff h (times_is k l) in
    let grouped = mul_assoc_ℤ n (pos e) (pos d) in
    let scaled = scaled_iff h.positive (n *ℤ pos e) (b *ℤ m) in
    (λ same. crossed.0 (sym grouped ∙ scaled.0 same), λ same. scaled.1 (grouped ∙ crossed.1 same))
