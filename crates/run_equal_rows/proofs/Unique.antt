-- The contract leaves one answer.
-- Main result: `same_row_unique`. Assumes nothing.
use mathlib.Core.Path.{◌≡◌, sym, ◌∙◌}
use Rattle.unique.specs.Twice.{Twice}
use Rattle.run_equal_rows.proofs.same_row.Kinds.{ps, r}
use Rattle.run_equal_rows.proofs.same_row.Reads.{Post}

-- Said of the contract itself, as the toolchain reads it.
pub same_row_unique : Twice ps r Post λ κs a x y end end'. x ≡ y
same_row_unique κs a x y end end' first second = first ∙ sym second
