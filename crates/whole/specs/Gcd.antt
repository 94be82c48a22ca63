-- The greatest common divisor, by Euclid's rule.
-- Main definition: `gcd`. Assumes nothing.
use Rattle.std.specs.Prelude.{ℕ, zero, suc, ◌%◌}

-- Euclid's rule for at most `turns` turns; the second number falls at each, so one more turn than that number is enough
unfoldable pub euclid : (turns : ℕ) → ℕ → ℕ → ℕ
euclid zero a b = a
euclid (suc turns) a zero = a
euclid (suc turns) a (suc b) = euclid turns (suc b) (a % suc b)

-- 01, The run: "the greatest common divisor of numerator and denominator"
unfoldable pub gcd : ℕ → ℕ → ℕ
gcd a b = euclid (suc b) a b
