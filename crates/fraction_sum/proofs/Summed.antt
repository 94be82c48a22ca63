-- A sum as the code makes it: from its cross products, or as it stands where one summand is 0.
-- Main results: `first_zero`, `second_zero`, `crossed`, `opposite_added`. Assume nothing.
use Rattle.std.specs.Prelude.{Ok, Result}
use Rattle.answer.specs.declared.Reason.{Reason}
use mathlib.Core.Path.{◌≡◌, ◌∙◌, subst}
use Prim.Native.Nat.{ℕ, ◌<◌, ◌^◌}
use lib.IntN.{ℤ, pos}
use lib.Signed.{mag}
use mir.Syntax.{w32, w64}
use mir.Val.{to_z, of_z}
use Rattle.whole.proofs.Words.{kept}
use Rattle.fraction.specs.Exact.{frac, neg_ℚ, ◌-ℚ◌}
use Rattle.fraction.specs.Limits.{tested, plus, minus}
use Rattle.fraction.specs.declared.Fraction.{Fraction}
use Rattle.fraction_reduce.specs.Contract.{Bottoms}
use Rattle.fraction_reduce.specs.Values.{value, Good, Stands, Answers}
use Rattle.fraction_reduce.proofs.Operations.{good_num, plus_is}
use Rattle.fraction_reduce.proofs.Shortcuts.{word_is, plus_nothing, plus_comm}
use Rattle.fraction_sum.specs.Contract.{Cross}

module _ {a b : Fraction} (left : Good a) (right : Good b) where
  -- Zero and a fraction make the fraction, in either order.
  pub first_zero : of_z w32 a.num ≡ of_z w32 (pos 0) → Answers (Ok b) (plus (value a) (value b))
  first_zero zero = plus_nothing left right (word_is (pos 0) tt (good_num left) zero)

  pub second_zero : of_z w32 b.num ≡ of_z w32 (pos 0) → Answers (Ok a) (plus (value a) (value b))
  second_zero zero = subst (Answers (Ok a)) (plus_comm (value b) (value a)) (plus_nothing right left (word_is (pos 0) tt (good_num right) zero))

  -- What is reduced is what the rule reduces.
  pub crossed : {n : ℤ} {d : ℕ} {r : Result Fraction Reason} → mag n < 2 ^ 63 → Cross a b n → Bottoms a b d → Answers r (tested (frac (to_z w64 (of_z w64 n)) d)) → Answers r (plus (value a) (value b))
  crossed {n} {r = r} fits top bottom answers = subst (Answers r) (plus_is left right (kept w64 n fits ∙ top.is) bottom.is) answers

-- By the rule, minus is plus the opposite.
pub opposite_added : (a b : Fraction) {f : Fraction} {r : Result Fraction Reason} → Stands f (neg_ℚ (value b)) → Answers r (plus (value a) (value f)) → Answers r (minus (value a) (value b))
unfolding plus minus ◌-ℚ◌
opposite_added a b opposite answers = rw opposite.same at answers
