-- The contract of `list_pieces::put_pieces` leaves one content of the buffer and one next place.
-- Main result: `put_pieces_unique`. Assumes nothing.
use mathlib.Core.Path.{◌≡◌}
use Rattle.unique.specs.Twice.{Twice}
use Rattle.list_text.proofs.Unique.{wrote_unique}
use Rattle.list_pieces.proofs.put_pieces.Kinds.{ps, r}
use Rattle.list_pieces.proofs.put_pieces.Reads.{Post}

pub put_pieces_unique : Twice ps r Post λ κs a x y end end'. (end.0.now ≡ end'.0.now) × (x ≡ y)
put_pieces_unique κs a x y end end' = wrote_unique _ _ _ _ _ _ _
