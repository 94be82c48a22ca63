-- The operations of the run: made exactly, in lowest terms, and tested against the limits.
-- Main definitions: `within`, `tested`, `Outside`, `plus`, `minus`, `times`, `over`. Assumes nothing.
use Rattle.std.specs.Prelude.{◌≡◌, Bool, ◌&&◌, cond, ℕ, nat_abs, leb}
use Rattle.answer.specs.Refusals.{number_of}
use Rattle.answer.specs.declared.Reason.TheVariants as reason
use Rattle.fraction.specs.Exact.{ℚ, ◌+ℚ◌, ◌-ℚ◌, ◌*ℚ◌, ◌÷ℚ◌}
use Rattle.answer.specs.declared.Reason.{Reason}
use Rattle.fraction.specs.Made.{Made, made, stopped}

-- 01, The run: "Numerators lie within -2,147,483,647 to 2,147,483,647, denominators within 1 to 2,147,483,647."
unfoldable pub limit : ℕ
limit = 2147483647

unfoldable pub within : ℚ → Bool
within q = leb (nat_abs q.num) limit && leb q.den limit

-- "Each single product, quotient, sum and difference is tested in lowest terms as it is made."
unfoldable pub tested : ℚ → Made Reason ℚ
tested q = cond (within q) (made q) (stopped reason.Range)

-- "The first step with a number outside the limits ends the run with refusal 7": the numbers of refusal that say so
unfoldable pub Outside : (number : ℕ) → Type 0
Outside number = number ≡ number_of reason.Range

unfoldable pub plus : ℚ → ℚ → Made Reason ℚ
plus a b = tested (a +ℚ b)

unfoldable pub minus : ℚ → ℚ → Made Reason ℚ
minus a b = tested (a -ℚ b)

unfoldable pub times : ℚ → ℚ → Made Reason ℚ
times a b = tested (a *ℚ b)

unfoldable pub over : ℚ → ℚ → Made Reason ℚ
over a b = tested (a ÷ℚ b)
