-- A product as the code makes it: from the numbers above and below the line, or as it stands where a factor is 0, 1 or -1.
-- Main results: `first_zero`, `second_zero`, `first_one`, `first_minus`, `exchanged`, `multiplied`. Assume nothing.
use Rattle.std.specs.Prelude.{Ok, Result}
use Rattle.answer.specs.declared.Reason.{Reason}
use mathlib.Core.Path.{◌≡◌, ◌∙◌, subst}
use Prim.Native.Nat.{ℕ, ◌<◌, ◌^◌}
use lib.IntN.{ℤ, pos, negsuc}
use lib.Signed.{mag}
use mir.Facts.{to_z-of_z}
use mir.Syntax.{w32, w64}
use mir.Val.{to_z, of_z}
use Rattle.whole.proofs.Words.{kept}
use Rattle.whole_signed.specs.Contract.{Product}
use Rattle.fraction.specs.Exact.{frac, neg_ℚ}
use Rattle.fraction.specs.Limits.{tested, times}
use Rattle.fraction.specs.declared.Fraction.{Fraction}
use Rattle.fraction_reduce.specs.Contract.{Bottoms}
use Rattle.fraction_reduce.specs.Values.{value, Good, Stands, Answers}
use Rattle.fraction_reduce.proofs.Operations.{good_num, good_den, times_is}
use Rattle.fraction_reduce.proofs.Shortcuts.{word_is, times_nothing, times_one, times_minus, times_comm}
use Rattle.fraction_product.specs.Contract.{WholeFactor}

-- The order of two factors does not matter.
pub exchanged : (a b : Fraction) {r : Result Fraction Reason} → Answers r (times (value b) (value a)) → Answers r (times (value a) (value b))
exchanged a b {r} answers = subst (Answers r) (times_comm (value b) (value a)) answers

module _ {a b : Fraction} (left : Good a) (right : Good b) where
  -- Zero times anything is zero, in either order.
  pub first_zero : of_z w32 a.num ≡ of_z w32 (pos 0) → Answers (Ok a) (times (value a) (value b))
  first_zero zero = times_nothing left right (word_is (pos 0) tt (good_num left) zero)

  pub second_zero : of_z w32 b.num ≡ of_z w32 (pos 0) → Answers (Ok b) (times (value a) (value b))
  second_zero zero = exchanged a b (times_nothing right left (word_is (pos 0) tt (good_num right) zero))

  -- A denominator of 1 makes a whole number.
  pub whole_first : of_z w32 a.den ≡ of_z w32 (pos 1) → WholeFactor a b
  whole_first one = record { first = left; second = right; whole = word_is (pos 1) tt (good_den left) one }

  pub whole_second : of_z w32 b.den ≡ of_z w32 (pos 1) → WholeFactor b a
  whole_second one = record { first = right; second = left; whole = word_is (pos 1) tt (good_den right) one }

  -- What is reduced is what the rule reduces.
  pub multiplied : {n : ℤ} {d : ℕ} {r : Result Fraction Reason} → mag n < 2 ^ 63 → Product (to_z w32 (of_z w32 a.num)) (to_z w32 (of_z w32 b.num)) n → Bottoms a b d → Answers r (tested (frac (to_z w64 (of_z w64 n)) d)) → Answers r (times (value a) (value b))
  multiplied {n} {r = r} fits top bottom answers =
      let num = kept w64 n fits ∙ (rw (to_z-of_z (good_num left), to_z-of_z (good_num right)) at top.is) in
      subst (Answers r) (times_is left right num bottom.is) answers

module _ {a b : Fraction} (factors : WholeFactor a b) where
  -- 1 times a fraction is the fraction, -1 times it is its opposite.
  pub first_one : of_z w32 a.num ≡ of_z w32 (pos 1) → Answers (Ok b) (times (value a) (value b))
  first_one one = times_one factors.first factors.second (word_is (pos 1) tt (good_num factors.first) one) factors.whole

  pub first_minus : {f : Fraction} → of_z w32 a.num ≡ of_z w32 (negsuc 0) → Stands f (neg_ℚ (value b)) → Answers (Ok f) (times (value a) (value b))
  first_minus minus opposite = times_minus factors.first factors.second (word_is (negsuc 0) tt (good_num factors.first) minus) factors.whole opposite
