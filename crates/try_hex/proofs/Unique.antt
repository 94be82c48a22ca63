-- Each contract leaves one answer.
-- Main results: a law NAME_unique for each public function NAME. Assume nothing.
use mathlib.Core.Path.{◌≡◌, sym, ◌∙◌}
use Rattle.unique.specs.Twice.{Twice}
use Rattle.try_hex.proofs.line_length.Kinds as line-length-kinds
use Rattle.try_hex.proofs.line_length.Reads as line-length
use Rattle.try_hex.proofs.read.Kinds as read-kinds
use Rattle.try_hex.proofs.read.Reads as read

-- The count is fixed, and so are the bytes.
pub read_unique : Twice read-kinds.ps read-kinds.r read.Post λ κs a x y end end'. (x ≡ y) × (end.1.0.now ≡ end'.1.0.now)
read_unique κs a x y end end' first second = (first.0.reached ∙ sym second.0.reached, first.0.placed ∙ sym second.0.placed)

pub line_length_unique : Twice line-length-kinds.ps line-length-kinds.r line-length.Post λ κs a x y end end'. x ≡ y
line_length_unique κs a x y end end' first second = first.counted ∙ sym second.counted
