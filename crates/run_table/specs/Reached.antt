-- A row of which only the columns of a set are made anew, and the constant's.
-- Main definition: `reached`. Assumes nothing.
use Rattle.std.specs.Prelude.{◌||◌, cond, ℕ, eqb}
use Rattle.set_members.specs.Sets.{holds}
use Rattle.fraction.specs.Exact.{ℚ}
use Rattle.answer.specs.declared.Reason.{Reason}
use Rattle.fraction.specs.Made.{Made, made}
use Rattle.rules_run.specs.Row.{Row, column, constant}

-- column c of a row: h makes the columns of the set, and the constant's; the others stand as r has them
unfoldable pub reached : (set : ℕ) (h : ℕ → Made Reason ℚ) (r : Row) (c : ℕ) → Made Reason ℚ
reached set h r c = cond (holds set c || eqb c constant) (h c) (made (column r c))
