-- The contract of `list_page::listing_of` leaves one answer and one content of the buffer.
-- Main result: `listing_of_unique`. Assumes nothing.
use mathlib.Core.Path.{◌≡◌, sym, ◌∙◌}
use Rattle.unique.specs.Twice.{Twice}
use Rattle.list_lines.proofs.Unique.{listed_unique}
use Rattle.list_page.proofs.listing_of.Kinds.{ps, r}
use Rattle.list_page.proofs.listing_of.Reads.{Post}

pub listing_of_unique : Twice ps r Post λ κs a x y end end'. (x ≡ y) × (end.0.now ≡ end'.0.now)
listing_of_unique κs a x y end end' first second = listed_unique x y _ _ (first.answers ∙ sym second.answers)
