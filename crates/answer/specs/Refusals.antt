-- The refusals and their numbers: 01, What comes back, the table's first column.
-- Main definition: `number_of`. Assumes nothing.
use Rattle.std.specs.Prelude.{ℕ}
use Rattle.answer.specs.declared.Reason.{Reason}
use Rattle.answer.specs.declared.Reason.TheVariants as reason

unfoldable pub number_of : Reason → ℕ
number_of reason.Space = 1
number_of reason.Short = 2
number_of reason.Count = 3
number_of reason.Length = 4
number_of reason.Term = 5
number_of reason.Pair = 6
number_of reason.Range = 7
number_of reason.Row = 8
