-- A point that tells forms apart: the columns are fixed one after another.
-- Main results: `separated` (A2), `separated_with`. Assume nothing.
use mathlib.Core.Path.{◌≡◌, refl, sym, ◌∙◌}
use mathlib.Core.Logic.{◌≢◌}
use mathlib.Core.Bool.{cond}
use Prim.Native.Nat.{ℕ, zero, suc, ◌-◌, ◌*◌, ◌/◌, ◌≤◌, ◌<◌}
use lib.Dec.{eqb}
use lib.IntN.{pos}
use native.Mathlib.Decide.{ℕ_discrete}
use native.Mathlib.Omega.{arith}
use Rattle.fraction.specs.Exact.{ℚ, whole, zero_ℚ}
use Rattle.laws_linear.specs.Apart.{Differ, Keeps, Separates}
use Rattle.laws_linear.specs.Fixed.{fixed}
use Rattle.laws_linear.specs.Form.{Form, eval}
use Rattle.laws_linear.proofs.Eval.{eval_constant}
use Rattle.laws_linear.proofs.Fixed.{fixed_there, fixed_elsewhere, fixed_value, one_column}

-- forms that have no columns from `columns` on
separated_below : (N n columns : ℕ) (r : ℕ → Form) → columns ≤ N → ((t c : ℕ) → columns ≤ c → c < N → r t c ≡ zero_ℚ) → (a : ℕ → ℚ) × Separates N n r a
unfolding Separates Keeps
separated_below N n zero r inside none = (zeros, λ t u h k d same. d.differs (by t u d.column d.within same (ℕ_discrete d.column N)))
  where
    zeros : ℕ → ℚ
    zeros c = zero_ℚ

    constant : (t : ℕ) → eval N (r t) zeros ≡ r t N
    constant t = eval_constant N (r t) zeros (λ c h. none t c (omega arith) h)

    by : (t u c : ℕ) → c ≤ N → eval N (r t) zeros ≡ eval N (r u) zeros → Dec (c ≡ N) → r t c ≡ r u c
    by t u c h same (yes last) = rw last (sym (constant t) ∙ same ∙ constant u)
    by t u c h same (no inner) = none t c (omega arith) (omega arith) ∙ sym (none u c (omega arith) (omega arith))
separated_below N n (suc p) r inside none =
    let rest = separated_below N n p (λ t. fixed N p q (r t)) (omega arith) (λ t c h k. gone t c h k (ℕ_discrete c p)) in (
      λ c. cond (eqb c p) q (rest.0 c),
      λ t u h k d same.
          rest.1 t u h k (one.2 t u h k d) (fixed_value N p q (r t) rest.0 inside ∙ same ∙ sym (fixed_value N p q (r u) rest.0 inside)),
    )
  where
    one : (q : ℕ) × (q ≤ n * (n - 1) / 2) × Keeps N n r p q
    one = one_column N n r p inside

    q : ℚ
    q = whole (pos one.0)

    gone : (t c : ℕ) → p ≤ c → c < N → Dec (c ≡ p) → fixed N p q (r t) c ≡ zero_ℚ
    gone t c h k (yes there) = rw there (fixed_there N p q (r t))
    gone t c h k (no off) = fixed_elsewhere q (r t) off (omega arith) ∙ none t c (omega arith) k

-- A2, spread: there is a point at which forms that differ have different values.
pub separated : (N n : ℕ) (r : ℕ → Form) → (a : ℕ → ℚ) × Separates N n r a
separated N n r = separated_below N n N r (omega arith) (λ t c h k. absurd (omega arith))

before : Form → (ℕ → Form) → ℕ → Form
before g r zero = g
before g r (suc t) = r t

-- The same for a further form that is not zero: its value there is not zero.
pub separated_with : (N n : ℕ) (r : ℕ → Form) (g : Form) → Differ N g (λ c. zero_ℚ) → (a : ℕ → ℚ) × Separates N n r a × (eval N g a ≢ zero_ℚ)
unfolding Separates before
separated_with N n r g some =
    let point = separated N (suc (suc n)) (before g (before (λ c. zero_ℚ) r)) in (
      point.0,
      λ t u h k. point.1 (suc (suc t)) (suc (suc u)) (omega arith) (omega arith),
      λ none.
          point.1 0 1 (omega arith) (omega arith) some (none ∙ sym (eval_constant N (λ c. zero_ℚ) point.0 (λ c h. refl))),
    )
