-- The contract of `list_row_line::put_row` leaves one content of the buffer and one next place.
-- Main result: `put_row_unique`. Assumes nothing.
use mathlib.Core.Path.{◌≡◌}
use Rattle.unique.specs.Twice.{Twice}
use Rattle.list_text.proofs.Unique.{wrote_unique}
use Rattle.list_row_line.proofs.put_row.Kinds.{ps, r}
use Rattle.list_row_line.proofs.put_row.Reads.{Post}

pub put_row_unique : Twice ps r Post λ κs a x y end end'. (end.0.now ≡ end'.0.now) × (x ≡ y)
put_row_unique κs a x y end end' = wrote_unique _ _ _ _ _ _ _
