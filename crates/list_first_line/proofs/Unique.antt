-- The contract of `list_first_line::put_first` leaves one content of the buffer and one next place.
-- Main result: `put_first_unique`. Assumes nothing.
use mathlib.Core.Path.{◌≡◌}
use Rattle.unique.specs.Twice.{Twice}
use Rattle.list_text.proofs.Unique.{wrote_unique}
use Rattle.list_first_line.proofs.put_first.Kinds.{ps, r}
use Rattle.list_first_line.proofs.put_first.Reads.{Post}

pub put_first_unique : Twice ps r Post λ κs a x y end end'. (end.0.now ≡ end'.0.now) × (x ≡ y)
put_first_unique κs a x y end end' first second = wrote_unique _ _ _ _ _ _ _ first.wrote second.wrote
