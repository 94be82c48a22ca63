-- The exact fractions that a reading gives its terms.
-- Main definition: `value_in`. Assumes nothing.
use Rattle.std.specs.Prelude.{List, ℕ}
use Rattle.fraction.specs.Exact.{ℚ, frac}
use Rattle.rules_problem.specs.declared.Term.{Term}
use Rattle.rules_reading.specs.Reading.{Reading}

-- 01: a reading gives whole numbers, "all over one common positive whole divisor D"
unfoldable pub value_in : {terms : List Term} → Reading terms → (t : ℕ) → ℚ
value_in reading t = frac (reading.number t) reading.divisor
