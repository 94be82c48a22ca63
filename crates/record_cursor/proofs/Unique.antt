-- The contracts of the cursor leave one answer.
-- Main results: `read_unique`, `cut_unique`. Assume nothing.
use mathlib.Core.Path.{◌≡◌, sym, ◌∙◌}
use Rattle.unique.specs.Twice.{Twice}
use Rattle.record_cursor.proofs.Cursor.cut.Kinds as cut-kinds
use Rattle.record_cursor.proofs.Cursor.cut.Reads as cut
use Rattle.record_cursor.proofs.Cursor.read.Kinds as read-kinds
use Rattle.record_cursor.proofs.Cursor.read.Reads as read

pub read_unique : Twice read-kinds.ps read-kinds.r read.Post λ κs a x y end end'. x ≡ y
read_unique κs a x y end end' first second =
    λ i. record { value = (first.value ∙ sym second.value) i; next = record { at = (first.after ∙ sym second.after) i } }

pub cut_unique : Twice cut-kinds.ps cut-kinds.r cut.Post λ κs a x y end end'. x ≡ y
cut_unique κs a x y end end' first second =
    λ i. record { value = (first.value ∙ sym second.value) i; next = record { at = (first.after ∙ sym second.after) i } }
