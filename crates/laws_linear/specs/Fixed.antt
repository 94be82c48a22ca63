-- A form with one of its columns fixed at a number.
-- Main definition: `fixed`. Assumes nothing.
use Rattle.std.specs.Prelude.{ℕ}
use Rattle.fraction.specs.Exact.{ℚ}
use Rattle.rules_run.specs.Build.{alone}
use Rattle.laws_linear.specs.Form.{Form, fold_form}

-- the form r of N columns with column p fixed at q: column p becomes 0, the constant gains q times the column
unfoldable pub fixed : (N p : ℕ) → (q : ℚ) → Form → Form
fixed N p q = fold_form p (alone N q)
