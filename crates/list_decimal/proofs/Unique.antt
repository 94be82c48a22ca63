-- The contract of `list_decimal::put_decimal` leaves one content of the buffer and one next place.
-- Main result: `put_decimal_unique`. Assumes nothing.
use mathlib.Core.Path.{◌≡◌}
use Rattle.unique.specs.Twice.{Twice}
use Rattle.list_text.proofs.Unique.{wrote_unique}
use Rattle.list_decimal.proofs.put_decimal.Kinds.{ps, r}
use Rattle.list_decimal.proofs.put_decimal.Reads.{Post}

pub put_decimal_unique : Twice ps r Post λ κs a x y end end'. (end.0.now ≡ end'.0.now) × (x ≡ y)
put_decimal_unique κs a x y end end' = wrote_unique _ _ _ _ _ _ _
