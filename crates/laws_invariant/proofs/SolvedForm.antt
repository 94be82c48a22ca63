-- The form that a difference gives for one of its unknowns.
-- Main results: `solved_there`, `solved_nonzero`, `solved_cancels`, `solved_value`. Assume nothing.
use mathlib.Core.Path.{◌≡◌, refl, sym, ap, ◌∙◌}
use mathlib.Core.Logic.{◌≢◌}
use mathlib.Core.List.{[], ◌∷◌}
use Prim.Native.Nat.{ℕ, ◌<◌}
use native.Mathlib.Decide.{ℕ_discrete}
use Rattle.whole.proofs.Commutative.{combined}
use Rattle.whole.proofs.Solver.{ring}
use Rattle.fraction.specs.Exact.{ℚ, zero_ℚ, one_ℚ, neg_ℚ, ◌+ℚ◌, ◌-ℚ◌, ◌*ℚ◌, ◌÷ℚ◌, inverse}
use Rattle.fraction.proofs.Field.{ℚ-ring, readsℚ, over_times, zero_product, difference_zero}
use Rattle.laws_linear.specs.Form.{Form, eval, fold_form}
use Rattle.laws_linear.proofs.Alone.{at_column, off_column}
use Rattle.laws_linear.proofs.Eval.{eval_constant}
use Rattle.laws_linear.proofs.Fold.{fold_there, fold_elsewhere, fold_value}
use Rattle.laws_invariant.specs.Rows.{solved_form}

module _ (p : ℕ) (d : Form) where
  -- The solved unknown does not stand in its form.
  pub solved_there : solved_form p d p ≡ zero_ℚ
  unfolding solved_form
  solved_there = at_column p zero_ℚ (neg_ℚ (d p ÷ℚ d p))

  solved_elsewhere : {c : ℕ} → c ≢ p → solved_form p d c ≡ neg_ℚ (d c ÷ℚ d p)
  unfolding solved_form
  solved_elsewhere {c} other = off_column other zero_ℚ (neg_ℚ (d c ÷ℚ d p))

  -- A column of the form that is not 0 is another one, and not 0 in the difference.
  pub solved_nonzero : (c : ℕ) → solved_form p d c ≢ zero_ℚ → (c ≢ p) × (d c ≢ zero_ℚ)
  solved_nonzero c nonzero = (other, λ none. nonzero (solved_elsewhere other ∙ combined ℚ-ring (neg_ℚ (inverse (d p))) none (ring ℚ-ring (d c ∷ inverse (d p) ∷ []) (search readsℚ depth 20) refl)))
    where
      other : c ≢ p
      other same = nonzero (ap (solved_form p d) same ∙ solved_there)

  module _ (nonzero : d p ≢ zero_ℚ) where
    -- F4: the difference itself folds to 0.
    pub solved_cancels : (c : ℕ) → fold_form p (solved_form p d) d c ≡ zero_ℚ
    solved_cancels c = by (ℕ_discrete c p)
      where
        by : Dec (c ≡ p) → fold_form p (solved_form p d) d c ≡ zero_ℚ
        by (yes same) = ap (fold_form p (solved_form p d) d) same ∙ fold_there p (solved_form p d) d
        by (no other) =
            fold_elsewhere other (solved_form p d) d ∙ ap (λ x. d c +ℚ d p *ℚ x) (solved_elsewhere other)
            ∙ combined ℚ-ring (neg_ℚ one_ℚ) (over_times (d c) (d p) nonzero) (ring ℚ-ring (d c ∷ d p ∷ inverse (d p) ∷ []) (search readsℚ depth 20) refl)

    -- Where the difference has the value 0, the solved unknown has the value of its form.
    pub solved_value : (N : ℕ) (v : ℕ → ℚ) → p < N → eval N d v ≡ zero_ℚ → v p ≡ eval N (solved_form p d) v
    solved_value N v inside none =
        let form = eval N (solved_form p d) v in
        let folded : zero_ℚ ≡ eval N d v +ℚ d p *ℚ (form -ℚ v p) =
        sym (eval_constant N _ v (λ c below. solved_cancels c) ∙ solved_cancels N) ∙ fold_value N p (solved_form p d) d v inside solved_there in
        sym (difference_zero form (v p) (zero_product (form -ℚ v p) (d p)
        (combined ℚ-ring (neg_ℚ one_ℚ) folded (combined ℚ-ring (neg_ℚ one_ℚ) none (ring ℚ-ring (form ∷ v p ∷ d p ∷ eval N d v ∷ []) (search readsℚ depth 20) refl)))
        nonzero))
