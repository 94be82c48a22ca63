-- An operation's answer taken apart, as a `match` on it does.
-- Main results: `fits_made`, `fits_good`, `refused_stopped`. Assume nothing.
use Rattle.std.specs.Prelude.{Err, Ok, Result}
use mathlib.Core.Path.{◌≡◌, sym, ap, ◌∙◌, subst}
use Prim.Native.Nat.{ℕ}
use Rattle.fraction.specs.declared.Fraction.{Fraction}
use Rattle.fraction.specs.Exact.{ℚ}
use Rattle.answer.specs.declared.Reason.{Reason}
use Rattle.fraction.specs.Made as rule
use Rattle.fraction_reduce.specs.Values.{value, Good, says, FitsGood, Answers}

module _ {r : Result Fraction Reason} {answer : rule.Made Reason ℚ} (answers : Answers r answer) where
  -- The fraction of an answer is what the rule makes, and is good.
  pub fits_made : {f : Fraction} → r ≡ Ok f → answer ≡ rule.made (value f)
  unfolding says
  fits_made e = sym answers.same ∙ ap says e

  pub fits_good : {f : Fraction} → r ≡ Ok f → Good f
  unfolding FitsGood
  fits_good e = subst FitsGood e answers.sound

  -- A refusal is the rule's.
  pub refused_stopped : {why : Reason} → r ≡ Err why → answer ≡ rule.stopped why
  unfolding says
  refused_stopped e = sym answers.same ∙ ap says e
