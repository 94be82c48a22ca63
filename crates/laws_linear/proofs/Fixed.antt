-- Fixing one column: what it leaves, and that a number can be chosen that keeps forms apart.
-- Main results: `fixed_there`, `fixed_constant`, `fixed_elsewhere`, `fixed_value`, `same_if_twice`, `one_column` (A1). Assume nothing.
use mathlib.Core.Path.{◌≡◌, refl, sym, ap, ◌∙◌}
use mathlib.Core.Logic.Dec
use mathlib.Core.Logic.{◌≢◌, ⊎_elim}
use mathlib.Core.Bool.{cond}
use mathlib.Core.List.{[], ◌∷◌}
use Prim.Native.Nat.{ℕ, ◌-◌, ◌*◌, ◌/◌, ◌≤◌, ◌<◌}
use lib.Dec.{eqb}
use lib.IntN.{pos, nat_abs}
use native.Mathlib.Decide.{ℕ_discrete, dec_lt}
use native.Mathlib.Omega.{arith}
use Rattle.whole.proofs.Commutative.{combined}
use Rattle.whole.proofs.Solver.{ring}
use Rattle.fraction.specs.Exact.{ℚ, whole, zero_ℚ, one_ℚ, ◌+ℚ◌, neg_ℚ, ◌-ℚ◌, ◌*ℚ◌}
use Rattle.fraction.proofs.Field.{ℚ-ring, readsℚ, zero_product, difference_zero, whole_injective}
use Rattle.laws_linear.specs.Apart.{Same, Differ, Keeps}
use Rattle.rules_run.specs.Build.{alone}
use Rattle.laws_linear.specs.Fixed.{fixed}
use Rattle.laws_linear.specs.Form.{Form, eval}
use Rattle.laws_linear.proofs.Alone.{alone_there, alone_elsewhere}
use Rattle.laws_linear.proofs.Among.{free_number}
use Rattle.laws_linear.proofs.Differ.{same_or_differ, differ_not_same, differ_symmetric, dec_same, dec_differ}
use Rattle.laws_linear.proofs.Eval.{eval_alone_constant}
use Rattle.laws_linear.proofs.Fold.{fold_there, fold_elsewhere, fold_substituted}

-- Fixing a column leaves zero there, adds to the constant, and changes no other column.
pub fixed_there : (N p : ℕ) (q : ℚ) (r : Form) → fixed N p q r p ≡ zero_ℚ
unfolding fixed
fixed_there N p q r = fold_there p (alone N q) r

pub fixed_constant : (N p : ℕ) (q : ℚ) (r : Form) → p < N → fixed N p q r N ≡ r N +ℚ r p *ℚ q
unfolding fixed
fixed_constant N p q r inside = fold_elsewhere (omega arith) (alone N q) r ∙ ap (λ x. r N +ℚ r p *ℚ x) (alone_there N q)

pub fixed_elsewhere : {N p c : ℕ} (q : ℚ) (r : Form) → c ≢ p → c ≢ N → fixed N p q r c ≡ r c
unfolding fixed
fixed_elsewhere {N} {p} {c} q r off inner =
    fold_elsewhere off (alone N q) r ∙ ap (λ x. r c +ℚ r p *ℚ x) (alone_elsewhere inner q) ∙ ring ℚ-ring (r c ∷ r p ∷ []) (search readsℚ depth 20) refl

-- A form with a column fixed has the value of the form where that column has the number.
pub fixed_value : (N p : ℕ) (q : ℚ) (r : Form) (v : ℕ → ℚ) → p < N → eval N (fixed N p q r) v ≡ eval N r (λ c. cond (eqb c p) q (v c))
unfolding fixed
fixed_value N p q r v inside =
    fold_substituted N p (alone N q) r v inside (alone_elsewhere (omega arith) q)
    ∙ ap (λ x. eval N r (λ c. cond (eqb c p) x (v c))) (eval_alone_constant N q v)

-- Two forms that become the same at two different numbers are the same.
pub same_if_twice : (N p : ℕ) (q s : ℚ) (f g : Form) → p < N → q ≢ s → Same N (fixed N p q f) (fixed N p q g) → Same N (fixed N p s f) (fixed N p s g) → Same N f g
same_if_twice N p q s f g inside apart first second c h = by (ℕ_discrete c p) (ℕ_discrete c N)
  where
    constants : (x : ℚ) → Same N (fixed N p x f) (fixed N p x g) → f N +ℚ f p *ℚ x ≡ g N +ℚ g p *ℚ x
    constants x same = sym (fixed_constant N p x f inside) ∙ same N (omega arith) ∙ fixed_constant N p x g inside

    column : f p ≡ g p
    column = difference_zero (f p) (g p) (zero_product (f p -ℚ g p) (q -ℚ s)
        (combined ℚ-ring one_ℚ (constants q first) (combined ℚ-ring (neg_ℚ one_ℚ) (constants s second)
        (ring ℚ-ring (f N ∷ g N ∷ f p ∷ g p ∷ q ∷ s ∷ []) (search readsℚ depth 20) refl)))
        (λ none. apart (difference_zero q s none)))

    by : Dec (c ≡ p) → Dec (c ≡ N) → f c ≡ g c
    by (yes there) last = rw there column
    by (no off) (yes there) = rw there
        (combined ℚ-ring one_ℚ (constants q first) (combined ℚ-ring (neg_ℚ q) column
        (ring ℚ-ring (f N ∷ g N ∷ f p ∷ g p ∷ q ∷ []) (search readsℚ depth 20) refl)))
    by (no off) (no inner) = sym (fixed_elsewhere q f off inner) ∙ first c h ∙ fixed_elsewhere q g off inner

-- A1, one column: of n forms those that differ still differ after column p is fixed at some whole number up to n(n - 1)/2.
pub one_column : (N n : ℕ) (r : ℕ → Form) (p : ℕ) → p < N → (q : ℕ) × (q ≤ n * (n - 1) / 2) × Keeps N n r p q
unfolding Keeps
one_column N n r p inside = (free.0, free.1, λ t u h k d. by t u h k d (dec_lt t u) (dec_lt u t))
  where
    at : ℕ → ℕ → Form
    at q t = fixed N p (whole (pos q)) (r t)

    Bad : ℕ → ℕ → ℕ → Type 0
    Bad t u q = Differ N (r t) (r u) × Same N (at q t) (at q u)

    once : (t u q s : ℕ) → Bad t u q → Bad t u s → Dec (q ≡ s) → q ≡ s
    once t u q s first second (yes same) = same
    once t u q s first second (no other) =
        absurd (differ_not_same first.0 (same_if_twice N p (whole (pos q)) (whole (pos s)) (r t) (r u) inside (λ h. other (ap nat_abs (whole_injective h))) first.1 second.1))

    free : (q : ℕ) × (q ≤ n * (n - 1) / 2) × ((t u : ℕ) → t < u → u < n → Bad t u q → ⊥)
    free = free_number n Bad
        (λ t u q. Dec.and (dec_differ N (r t) (r u)) (dec_same N (at q t) (at q u)))
        (λ t u q s h k. once t u q s h k (ℕ_discrete q s))

    kept : (t u : ℕ) → t < u → u < n → Differ N (r t) (r u) → Differ N (at free.0 t) (at free.0 u)
    kept t u h k d = ⊎_elim (λ same. absurd (free.2 t u h k (d, same))) (λ differ. differ) (same_or_differ N (at free.0 t) (at free.0 u))

    by : (t u : ℕ) → t < n → u < n → Differ N (r t) (r u) → Dec (t < u) → Dec (u < t) → Differ N (at free.0 t) (at free.0 u)
    by t u h k d (yes before) other = kept t u before k d
    by t u h k d (no least) (yes after) = differ_symmetric (kept u t after h (differ_symmetric d))
    by t u h k d (no least) (no most) = let same : t ≡ u = omega arith in absurd (d.differs (ap (λ x. r x d.column) same))
