-- The limits at case M's numbers, computed on the rules.
-- Main result: `case_m_limits`. Assumes nothing.
use mathlib.Core.Path.{◌≡◌, refl}
use Prim.Native.Nat.{ℕ}
use lib.IntN.{ℤ, pos}
use Rattle.whole.specs.Gcd.{gcd, euclid}
use Rattle.whole.specs.Signed.{signed}
use Rattle.answer.specs.Refusals.{number_of}
use Rattle.fraction.specs.Exact.{ℚ, whole, zero_ℚ, frac, ◌+ℚ◌, ◌*ℚ◌}
use Rattle.fraction.specs.Limits.{limit, within, tested, plus, times}
use Rattle.answer.specs.declared.Reason.{Reason}
use Rattle.fraction.specs.Made.{Made, made, stopped, ◌>>=◌}

-- the numbers of what was made, or the refusal's number over 0
numbers : Made Reason ℚ → ℤ × ℕ
numbers (made q) = (q.num, q.den)
numbers (stopped why) = (pos (number_of why), 0)

-- 32767 times 32767, doubled, plus `more`
case_m : (more : ℕ) → Made Reason ℚ
case_m more = times (whole (pos 32767)) (whole (pos 32767)) >>= λ square. times (whole (pos 2)) square >>= λ double. plus double (whole (pos more))

-- 01, case M: "Adding 131,069 is accepted; adding 131,070 is refusal 7".
case_m_limits : (numbers (case_m 131069) ≡ (pos 2147483647, 1)) × (numbers (case_m 131070) ≡ (pos 7, 0))
unfolding numbers case_m plus times tested within limit number_of ◌+ℚ◌ ◌*ℚ◌ frac whole zero_ℚ gcd euclid signed ◌>>=◌
case_m_limits = (refl, refl)
