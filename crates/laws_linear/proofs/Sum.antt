-- The laws of finite sums of fractions.
-- Main results: `sum_equal`, `sum_plus`, `sum_times`, `sum_zeros`, `sum_but_one`, `sum_single`, `sum_exchange`. Assume nothing.
use mathlib.Core.Path.{◌≡◌, refl, sym, ap, ap₂, ◌∙◌}
use mathlib.Core.Logic.{◌≢◌}
use mathlib.Core.List.{[], ◌∷◌}
use Prim.Native.Nat.{ℕ, zero, suc, ◌<◌}
use native.Mathlib.Decide.{ℕ_discrete}
use native.Mathlib.Omega.{arith}
use Rattle.whole.proofs.Solver.{ring}
use Rattle.whole.proofs.Commutative.{combined, zero_add}
use Rattle.fraction.specs.Exact.{ℚ, zero_ℚ, one_ℚ, ◌+ℚ◌, ◌*ℚ◌}
use Rattle.fraction.proofs.Field.{ℚ-ring, readsℚ, plus_zero, times_zero}
use Rattle.laws_linear.specs.Form.{sum}

-- Sums of equal summands are equal.
pub sum_equal : (count : ℕ) {f g : ℕ → ℚ} → ((c : ℕ) → c < count → f c ≡ g c) → sum count f ≡ sum count g
unfolding sum
sum_equal zero same = refl
sum_equal (suc k) same = ap₂ ◌+ℚ◌ (sum_equal k (λ c h. same c (omega arith))) (same k (omega arith))

-- The sum of sums is the sum of both.
pub sum_plus : (count : ℕ) (f g : ℕ → ℚ) → sum count (λ c. f c +ℚ g c) ≡ sum count f +ℚ sum count g
unfolding sum
sum_plus zero f g = sym (plus_zero zero_ℚ)
sum_plus (suc k) f g = ap (λ x. x +ℚ (f k +ℚ g k)) (sum_plus k f g) ∙ ring ℚ-ring (sum k f ∷ sum k g ∷ f k ∷ g k ∷ []) (search readsℚ depth 20) refl

-- A common factor comes out of a sum.
pub sum_times : (count : ℕ) (k : ℚ) (f : ℕ → ℚ) → sum count (λ c. k *ℚ f c) ≡ k *ℚ sum count f
unfolding sum
sum_times zero k f = sym (times_zero k)
sum_times (suc n) k f = ap (λ x. x +ℚ k *ℚ f n) (sum_times n k f) ∙ ring ℚ-ring (k ∷ sum n f ∷ f n ∷ []) (search readsℚ depth 20) refl

-- A sum of zeros is zero.
pub sum_zeros : (count : ℕ) → sum count (λ c. zero_ℚ) ≡ zero_ℚ
unfolding sum
sum_zeros zero = refl
sum_zeros (suc k) = ap (λ x. x +ℚ zero_ℚ) (sum_zeros k) ∙ plus_zero zero_ℚ

-- Sums whose summands are equal but for one differ by what that one differs.
pub sum_but_one : (count p : ℕ) (f g : ℕ → ℚ) → p < count → ((c : ℕ) → c < count → c ≢ p → f c ≡ g c) → sum count f +ℚ g p ≡ sum count g +ℚ f p
unfolding sum
sum_but_one zero p f g inside same = absurd (omega arith)
sum_but_one (suc k) p f g inside same = by (ℕ_discrete k p) (sum_but_one k p f g)
  where
    by : Dec (k ≡ p) → (p < k → ((c : ℕ) → c < k → c ≢ p → f c ≡ g c) → sum k f +ℚ g p ≡ sum k g +ℚ f p) → sum k f +ℚ f k +ℚ g p ≡ sum k g +ℚ g k +ℚ f p
    by (yes last) before =
        rw (← last)
        (combined ℚ-ring one_ℚ (sum_equal k {f = f} {g = g} (λ c h. same c (omega arith) (omega arith)))
        (ring ℚ-ring (sum k f ∷ sum k g ∷ f k ∷ g k ∷ []) (search readsℚ depth 20) refl))
    by (no other) before =
        combined ℚ-ring one_ℚ (before (omega arith) (λ c h. same c (omega arith))) (combined ℚ-ring one_ℚ (same k (omega arith) other)
        (ring ℚ-ring (sum k f ∷ sum k g ∷ f k ∷ g k ∷ f p ∷ g p ∷ []) (search readsℚ depth 20) refl))

-- A sum with one summand other than zero is that summand.
pub sum_single : (count p : ℕ) (f : ℕ → ℚ) → p < count → ((c : ℕ) → c < count → c ≢ p → f c ≡ zero_ℚ) → sum count f ≡ f p
sum_single count p f inside none =
    sym (plus_zero (sum count f)) ∙ sum_but_one count p f (λ c. zero_ℚ) inside none ∙ ap (λ x. x +ℚ f p) (sum_zeros count) ∙ zero_add ℚ-ring (f p)

-- The order of two sums can be exchanged.
pub sum_exchange : (count others : ℕ) (f : ℕ → ℕ → ℚ) → sum count (λ c. sum others (f c)) ≡ sum others (λ d. sum count (λ c. f c d))
unfolding sum
sum_exchange zero others f = sym (sum_zeros others)
sum_exchange (suc k) others f =
    ap (λ x. x +ℚ sum others (f k)) (sum_exchange k others f) ∙ sym (sum_plus others (λ d. sum k (λ c. f c d)) (f k))
