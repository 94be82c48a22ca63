-- The laws of the fold of a solved form into a form.
-- Main results: `fold_there`, `fold_elsewhere`, `fold_equal` (F3), `fold_plus`, `fold_minus`, `fold_times` (F2), `fold_without`, `fold_commutes`, `fold_value`, `fold_sound` (F1), `fold_substituted`. Assume nothing.
use mathlib.Core.Path.{◌≡◌, refl, sym, ap, ap₂, ◌∙◌}
use mathlib.Core.Logic.{◌≢◌, Ne-symm}
use mathlib.Core.Bool.{Bool, true, false, cond}
use mathlib.Core.List.{[], ◌∷◌}
use Prim.Native.Nat.{ℕ, ◌<◌}
use lib.Dec.{eqb}
use native.Mathlib.Omega.{arith}
use native.Mathlib.Decide.{ℕ_discrete}
use Rattle.whole.proofs.Commutative.{combined}
use Rattle.whole.proofs.Solver.{ring}
use Rattle.fraction.specs.Exact.{ℚ, zero_ℚ, one_ℚ, ◌+ℚ◌, neg_ℚ, ◌-ℚ◌, ◌*ℚ◌}
use Rattle.fraction.proofs.Field.{ℚ-ring, readsℚ, plus_zero}
use Rattle.laws_linear.specs.Form.{Form, eval, fold_form}
use Rattle.laws_linear.proofs.Alone.{at_column, off_column}
use Rattle.laws_linear.proofs.Eval.{zero_times, eval_equal, eval_plus, eval_times, eval_but_one}

-- A fold leaves zero in the column of the solved unknown, and in each other column gains the coefficient times the solved column.
pub fold_there : (p : ℕ) (solved r : Form) → fold_form p solved r p ≡ zero_ℚ
unfolding fold_form
fold_there p solved r = at_column p zero_ℚ (r p +ℚ r p *ℚ solved p)

pub fold_elsewhere : {c p : ℕ} → c ≢ p → (solved r : Form) → fold_form p solved r c ≡ r c +ℚ r p *ℚ solved c
unfolding fold_form
fold_elsewhere {c} {p} other solved r = off_column other zero_ℚ (r c +ℚ r p *ℚ solved c)

-- F3: equal rows fold to equal rows.
pub fold_equal : (p c : ℕ) (solved other f g : Form) → solved c ≡ other c → f p ≡ g p → f c ≡ g c → fold_form p solved f c ≡ fold_form p other g c
unfolding fold_form
fold_equal p c solved other f g same there here = ap (cond (eqb c p) zero_ℚ) (ap₂ ◌+ℚ◌ here (ap₂ ◌*ℚ◌ there same))

-- F2: the fold is linear: the fold of a sum, a difference, a multiple is that of the folds.
pub fold_plus : (p : ℕ) (solved f g : Form) (c : ℕ) → fold_form p solved (λ k. f k +ℚ g k) c ≡ fold_form p solved f c +ℚ fold_form p solved g c
unfolding fold_form
fold_plus p solved f g c = by (eqb c p)
  where
    by : (b : Bool) → cond b zero_ℚ (f c +ℚ g c +ℚ (f p +ℚ g p) *ℚ solved c) ≡ cond b zero_ℚ (f c +ℚ f p *ℚ solved c) +ℚ cond b zero_ℚ (g c +ℚ g p *ℚ solved c)
    by true = sym (plus_zero zero_ℚ)
    by false = ring ℚ-ring (f c ∷ g c ∷ f p ∷ g p ∷ solved c ∷ []) (search readsℚ depth 20) refl

pub fold_times : (p : ℕ) (solved : Form) (k : ℚ) (f : Form) (c : ℕ) → fold_form p solved (λ d. k *ℚ f d) c ≡ k *ℚ fold_form p solved f c
unfolding fold_form
fold_times p solved k f c = by (eqb c p)
  where
    by : (b : Bool) → cond b zero_ℚ (k *ℚ f c +ℚ k *ℚ f p *ℚ solved c) ≡ k *ℚ cond b zero_ℚ (f c +ℚ f p *ℚ solved c)
    by true = ring ℚ-ring (k ∷ []) (search readsℚ depth 20) refl
    by false = ring ℚ-ring (k ∷ f c ∷ f p ∷ solved c ∷ []) (search readsℚ depth 20) refl

pub fold_minus : (p : ℕ) (solved f g : Form) (c : ℕ) → fold_form p solved (λ k. f k -ℚ g k) c ≡ fold_form p solved f c -ℚ fold_form p solved g c
unfolding fold_form
fold_minus p solved f g c = by (eqb c p)
  where
    by : (b : Bool) → cond b zero_ℚ (f c -ℚ g c +ℚ (f p -ℚ g p) *ℚ solved c) ≡ cond b zero_ℚ (f c +ℚ f p *ℚ solved c) -ℚ cond b zero_ℚ (g c +ℚ g p *ℚ solved c)
    by true = ring ℚ-ring [] (search readsℚ depth 20) refl
    by false = ring ℚ-ring (f c ∷ g c ∷ f p ∷ g p ∷ solved c ∷ []) (search readsℚ depth 20) refl

-- A fold changes nothing in a form without the solved unknown.
pub fold_without : (p : ℕ) (solved r : Form) (c : ℕ) → r p ≡ zero_ℚ → fold_form p solved r c ≡ r c
unfolding fold_form
fold_without p solved r c none = grind (arith, plus_zero, zero_times)

-- Two folds change places (request #110): folding p and then q is folding q into the row and into the form of p, and then p.
pub fold_commutes : (p q : ℕ) (form other r : Form) (c : ℕ) → q ≢ p → other p ≡ zero_ℚ → fold_form q other (fold_form p form r) c ≡ fold_form p (fold_form q other form) (fold_form q other r) c
fold_commutes p q form other r c apart none = by (ℕ_discrete c p) (ℕ_discrete c q)
  where
    by : Dec (c ≡ p) → Dec (c ≡ q) → fold_form q other (fold_form p form r) c ≡ fold_form p (fold_form q other form) (fold_form q other r) c
    by (yes there) where-q =
        rw (there, fold_elsewhere (Ne-symm apart) other (fold_form p form r), fold_there p form r, fold_there, none)
        (ring ℚ-ring (fold_form p form r q ∷ []) (search readsℚ depth 20) refl)
    by (no off) (yes there) =
        rw (there, fold_there, fold_elsewhere apart (fold_form q other form) (fold_form q other r), fold_there q other r, fold_there)
        (ring ℚ-ring (fold_form q other r p ∷ []) (search readsℚ depth 20) refl)
    by (no off) (no away) =
        rw (
          fold_elsewhere away other (fold_form p form r),
          fold_elsewhere off form r,
          fold_elsewhere apart form r,
          fold_elsewhere off (fold_form q other form) (fold_form q other r),
          fold_elsewhere away other form,
          fold_elsewhere away other r,
          fold_elsewhere (Ne-symm apart) other r,
          none,
        )
        (ring ℚ-ring (r c ∷ r p ∷ r q ∷ form c ∷ form q ∷ other c ∷ []) (search readsℚ depth 20) refl)

-- What a fold makes of the value: the solved unknown's value is replaced by that of the solved form.
pub fold_value : (N p : ℕ) (solved r : Form) (v : ℕ → ℚ) → p < N → solved p ≡ zero_ℚ → eval N (fold_form p solved r) v ≡ eval N r v +ℚ r p *ℚ (eval N solved v -ℚ v p)
fold_value N p solved r v inside none =
    let gained : Form = λ c. r c +ℚ r p *ℚ solved c in
    let linear : eval N gained v ≡ eval N r v +ℚ r p *ℚ eval N solved v = eval_plus N r (λ c. r p *ℚ solved c) v ∙ ap (λ x. eval N r v +ℚ x) (eval_times N (r p) solved v) in
    let changed : eval N (fold_form p solved r) v +ℚ gained p *ℚ v p ≡ eval N gained v +ℚ fold_form p solved r p *ℚ v p = eval_but_one N p (fold_form p solved r) gained v inside (λ c h other. fold_elsewhere other solved r) in
    combined ℚ-ring one_ℚ linear (combined ℚ-ring one_ℚ changed (combined ℚ-ring (v p) (fold_there p solved r) (combined ℚ-ring (neg_ℚ (r p *ℚ v p)) none
    (ring ℚ-ring (eval N (fold_form p solved r) v ∷ eval N gained v ∷ eval N r v ∷ eval N solved v ∷ r p ∷ solved p ∷ v p ∷ fold_form p solved r p ∷ []) (search readsℚ depth 20) refl))))

-- F1: where the solved unknown has the value of the solved form, a fold changes no value.
pub fold_sound : (N p : ℕ) (solved r : Form) (v : ℕ → ℚ) → p < N → solved p ≡ zero_ℚ → v p ≡ eval N solved v → eval N (fold_form p solved r) v ≡ eval N r v
fold_sound N p solved r v inside none same =
    fold_value N p solved r v inside none
    ∙ combined ℚ-ring (neg_ℚ (r p)) same (ring ℚ-ring (eval N r v ∷ r p ∷ eval N solved v ∷ v p ∷ []) (search readsℚ depth 20) refl)

-- A folded form has the value of the form where the solved unknown is given the value of the solved form.
pub fold_substituted : (N p : ℕ) (solved r : Form) (v : ℕ → ℚ) → p < N → solved p ≡ zero_ℚ → eval N (fold_form p solved r) v ≡ eval N r (λ c. cond (eqb c p) (eval N solved v) (v c))
fold_substituted N p solved r v inside none =
    unmoved (fold_form p solved r) (fold_there p solved r)
    ∙ fold_sound N p solved r given inside none (at_column p (eval N solved v) (v p) ∙ unmoved solved none)
  where
    given : ℕ → ℚ
    given c = cond (eqb c p) (eval N solved v) (v c)

    unmoved : (f : Form) → f p ≡ zero_ℚ → eval N f v ≡ eval N f given
    unmoved f free = eval_equal N (λ c h. refl) (λ c h some. sym (off_column (λ there. some (ap f there ∙ free)) (eval N solved v) (v c)))
