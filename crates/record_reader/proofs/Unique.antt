-- The contract of `record_reader::read_problem` leaves one answer.
-- Main result: `read_problem_unique`. Assumes nothing.
use mathlib.Core.Path.{◌≡◌, sym, ◌∙◌}
use Rattle.unique.specs.Twice.{Twice}
use Rattle.record_reader.proofs.read_problem.Kinds.{ps, r}
use Rattle.record_reader.proofs.read_problem.Reads.{Post}

pub read_problem_unique : Twice ps r Post λ κs a x y end end'. x ≡ y
read_problem_unique κs a x y end end' first second = first ∙ sym second
