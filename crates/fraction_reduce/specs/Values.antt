-- What the code's fraction and an operation's answer mean.
-- Main definitions: `value`, `Good`, `Stands`, `says`, `Answers`. Assumes nothing.
use Rattle.std.specs.Prelude.{◌≡◌, ℕ, ◌≤◌, pos, nat_abs, Err, Ok, Result}
use Rattle.whole.specs.Gcd.{gcd}
use Rattle.fraction.specs.Exact.{ℚ, frac}
use Rattle.answer.specs.declared.Reason.{Reason}
use Rattle.fraction.specs.Made as rule
use Rattle.fraction.specs.Limits.{limit}
use Rattle.fraction.specs.declared.Fraction.{Fraction}

-- what a fraction struct stands for: its numerator over its denominator. It is asked of structs that are `Good`, whose denominator is above 0.
unfoldable pub value : Fraction → ℚ
value f = frac f.num (nat_abs f.den)

-- 01, The run: "Numerators lie within -2,147,483,647 to 2,147,483,647, denominators within 1 to 2,147,483,647", in lowest terms
pub record Good (f : Fraction) : Type 0 where
  pub upward : f.den ≡ pos (nat_abs f.den)
  pub least : 1 ≤ nat_abs f.den
  pub below : nat_abs f.den ≤ limit
  pub above : nat_abs f.num ≤ limit
  pub lowest : gcd (nat_abs f.num) (nat_abs f.den) ≡ 1

-- a good struct that stands for the exact fraction q
pub record Stands (f : Fraction) (q : ℚ) : Type 0 where
  pub good : Good f
  pub same : value f ≡ q

-- an operation's answer, as the rule's
unfoldable pub says : Result Fraction Reason → rule.Made Reason ℚ
says (Ok f) = rule.made (value f)
says (Err why) = rule.stopped why

-- a fraction that was made is good
unfoldable pub FitsGood : Result Fraction Reason → Type 0
FitsGood (Ok f) = Good f
FitsGood (Err why) = Unit {0}

-- the answer is the rule's, and what was made is good
pub record Answers (r : Result Fraction Reason) (answer : rule.Made Reason ℚ) : Type 0 where
  pub same : says r ≡ answer
  pub sound : FitsGood r
