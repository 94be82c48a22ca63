-- One column of a fold, from the numbers it is made of.
-- Main definitions: `gained_by`, `gained_column`. Assume nothing.
use Rattle.std.specs.Prelude.{ℕ}
use Rattle.fraction.specs.Exact.{ℚ}
use Rattle.fraction.specs.Limits.{plus, times}
use Rattle.answer.specs.declared.Reason.{Reason}
use Rattle.fraction.specs.Made.{Made, ◌>>=◌}
use Rattle.rules_run.specs.Row.{Row, column}

-- x gains k times f: "one product, one sum"
unfoldable pub gained_by : (k f x : ℚ) → Made Reason ℚ
gained_by k f x = times k f >>= λ gained. plus x gained

-- column c of a row r whose columns gain k times the form's
unfoldable pub gained_column : (k : ℚ) (form r : Row) (c : ℕ) → Made Reason ℚ
gained_column k form r c = gained_by k (column form c) (column r c)
