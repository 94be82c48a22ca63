-- To divide by a number and to negate is to multiply by one factor.
-- Main result: `divided_negated`. Assumes nothing.
use mathlib.Core.Path.{◌≡◌, refl, sym, ap, ◌∙◌}
use mathlib.Core.Bool.{Bool, true, false, ◌&&◌}
use mathlib.Core.List.{[], ◌∷◌}
use Prim.Native.Nat.{ℕ}
use lib.Dec.{leb}
use Rattle.whole.proofs.Sizes.{size_negated}
use Rattle.whole.proofs.Solver.{ring}
use Rattle.fraction.specs.Exact.{ℚ, neg_ℚ, inverse, ◌*ℚ◌, ◌÷ℚ◌}
use Rattle.fraction.specs.Limits.{limit, within, tested, times, over}
use Rattle.answer.specs.declared.Reason.{Reason}
use Rattle.fraction.specs.Made.{Made, made, ◌>>=◌}
use Rattle.fraction.proofs.Bounded.{tested_within, tested_outside}
use Rattle.fraction.proofs.Field.{ℚ-ring, readsℚ}

-- The limits are the same on both sides of zero.
within_negated : (q : ℚ) → within (neg_ℚ q) ≡ within q
unfolding within neg_ℚ
within_negated q = ap (λ size. leb size limit && leb q.den limit) (size_negated q.num)

abbrev negated : Made Reason ℚ → Made Reason ℚ
negated step = step >>= λ q. made (neg_ℚ q)

-- So it does not matter whether a number is tested before it is negated, or after.
tested_negated : (q : ℚ) → negated (tested q) ≡ tested (neg_ℚ q)
unfolding ◌>>=◌
tested_negated q = by (within q) refl
  where
    by : (inside : Bool) → within q ≡ inside → negated (tested q) ≡ tested (neg_ℚ q)
    by true h = ap negated (tested_within q h) ∙ sym (tested_within (neg_ℚ q) (within_negated q ∙ h))
    by false h = ap negated (tested_outside q h) ∙ sym (tested_outside (neg_ℚ q) (within_negated q ∙ h))

factor_first : (x i : ℚ) → neg_ℚ (x *ℚ i) ≡ neg_ℚ i *ℚ x
factor_first x i = ring ℚ-ring (x ∷ i ∷ []) (search readsℚ depth 20) refl

-- A number divided by k and negated is the product of minus 1/k and the number, refused in the same cases.
pub divided_negated : (x k : ℚ) → (over x k >>= λ q. made (neg_ℚ q)) ≡ times (neg_ℚ (inverse k)) x
unfolding over times ◌÷ℚ◌
divided_negated x k = tested_negated (x *ℚ inverse k) ∙ ap tested (factor_first x (inverse k))
