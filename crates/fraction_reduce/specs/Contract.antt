-- What the functions that make a fraction ask for, and what they ensure.
-- Main definitions: `Reducible`, `SizesLimited`, `InLowest`, `WithSign`, `Tested`, `Bottoms`. Assume nothing.
use Rattle.std.specs.Prelude.{◌≡◌, ℕ, ◌*◌, ◌/◌, ◌^◌, ◌<◌, ◌≤◌, ℤ, pos, nat_abs, Result}
use Rattle.whole.specs.Gcd.{gcd}
use Rattle.whole.specs.Signed.{signed}
use Rattle.answer.specs.declared.Reason.{Reason}
use Rattle.fraction.specs.Exact.{ℚ}
use Rattle.fraction.specs.Limits.{limit, tested}
use Rattle.fraction_reduce.specs.Values.{Answers}
use Rattle.fraction.specs.declared.Fraction.{Fraction}
use Rattle.fraction_reduce.specs.declared.reduce.Terms.{Terms}

-- A whole number over another that is not 0, to be reduced.
pub record Reducible (n : ℤ) (d : ℕ) : Type 0 where
  pub size : nat_abs n < 2 ^ 63
  pub positive : 0 < d

-- Two sizes within the limit.
pub record SizesLimited (top bottom : ℕ) : Type 0 where
  pub above : top ≤ limit
  pub below : bottom ≤ limit

-- Two sizes divided by their greatest common divisor.
pub record InLowest (top bottom : ℕ) (r : Terms) : Type 0 where
  pub above : r.top ≡ top / gcd top bottom
  pub below : r.bottom ≡ bottom / gcd top bottom

-- A fraction of two sizes, with the sign of another number.
pub record WithSign (like : ℤ) (top bottom : ℕ) (r : Fraction) : Type 0 where
  pub above : r.num ≡ signed like top
  pub below : r.den ≡ pos bottom

-- Of two sizes with the sign of another number the rule's test says the same, whichever exact fraction has these numbers.
pub record Tested (like : ℤ) (terms : Terms) (r : Result Fraction Reason) : Type 0 where
  pub answers : (q : ℚ) → q.num ≡ signed like terms.top → q.den ≡ terms.bottom → Answers r (tested q)

-- The product of two denominators.
pub record Bottoms (a b : Fraction) (r : ℕ) : Type 0 where
  pub is : r ≡ nat_abs a.den * nat_abs b.den
  pub positive : 0 < r
