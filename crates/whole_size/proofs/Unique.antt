-- The functions on sizes: each contract leaves one answer.
-- Main results: a law NAME_unique for each public function NAME. Assume nothing.
use mathlib.Core.Path.{◌≡◌, sym, ◌∙◌}
use Rattle.unique.specs.Twice.{Twice}
use Rattle.whole_size.proofs.narrow.Kinds as narrow_kinds
use Rattle.whole_size.proofs.narrow.Reads as narrow
use Rattle.whole_size.proofs.put_back.Kinds as put-back-kinds
use Rattle.whole_size.proofs.put_back.Reads as put_back
use Rattle.whole_size.proofs.size.Kinds as size-kinds
use Rattle.whole_size.proofs.size.Reads as size
use Rattle.whole_size.proofs.size_wide.Kinds as size-wide-kinds
use Rattle.whole_size.proofs.size_wide.Reads as size-wide

pub size_wide_unique : Twice size-wide-kinds.ps size-wide-kinds.r size-wide.Post λ κs a x y end end'. x ≡ y
size_wide_unique κs a x y end end' first second = first ∙ sym second

pub size_unique : Twice size-kinds.ps size-kinds.r size.Post λ κs a x y end end'. x ≡ y
size_unique κs a x y end end' first second = first ∙ sym second

pub narrow_unique : Twice narrow_kinds.ps narrow_kinds.r narrow.Post λ κs a x y end end'. x ≡ y
narrow_unique κs a x y end end' first second = first ∙ sym second

pub put_back_unique : Twice put-back-kinds.ps put-back-kinds.r put_back.Post λ κs a x y end end'. x ≡ y
put_back_unique κs a x y end end' first second = first ∙ sym second
