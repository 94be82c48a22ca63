-- One column of a solved form, from the numbers it is made of.
-- Main definition: `scaled_column`. Assumes nothing.
use Rattle.std.specs.Prelude.{ℕ}
use Rattle.fraction.specs.Exact.{ℚ}
use Rattle.fraction.specs.Limits.{times}
use Rattle.answer.specs.declared.Reason.{Reason}
use Rattle.fraction.specs.Made.{Made}
use Rattle.rules_run.specs.Row.{Row, column}

-- Column c of a row d that is multiplied by a factor. To divide by the unknown's coefficient and to negate is to multiply by one
-- factor, the same in all columns.
unfoldable pub scaled_column : (factor : ℚ) (d : Row) (c : ℕ) → Made Reason ℚ
scaled_column factor d c = times factor (column d c)
