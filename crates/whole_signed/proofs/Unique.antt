-- The signed operations: each contract leaves one answer.
-- Main results: a law NAME_unique for each public function NAME. Assume nothing.
use mathlib.Core.Path.{◌≡◌, sym, ◌∙◌}
use Rattle.unique.specs.Twice.{Twice}
use Rattle.whole_signed.proofs.opposite.Kinds as opposite-kinds
use Rattle.whole_signed.proofs.opposite.Reads as opposite
use Rattle.whole_signed.proofs.plus.Kinds as plus-kinds
use Rattle.whole_signed.proofs.plus.Reads as plus
use Rattle.whole_signed.proofs.times.Kinds as times-kinds
use Rattle.whole_signed.proofs.times.Reads as times
use Rattle.whole_signed.proofs.wide.Kinds as wide-kinds
use Rattle.whole_signed.proofs.wide.Reads as wide

pub wide_unique : Twice wide-kinds.ps wide-kinds.r wide.Post λ κs a x y end end'. x ≡ y
wide_unique κs a x y end end' first second = first ∙ sym second

pub times_unique : Twice times-kinds.ps times-kinds.r times.Post λ κs a x y end end'. x ≡ y
times_unique κs a x y end end' first second = first.is ∙ sym second.is

pub plus_unique : Twice plus-kinds.ps plus-kinds.r plus.Post λ κs a x y end end'. x ≡ y
plus_unique κs a x y end end' first second = first ∙ sym second

pub opposite_unique : Twice opposite-kinds.ps opposite-kinds.r opposite.Post λ κs a x y end end'. x ≡ y
opposite_unique κs a x y end end' first second = first ∙ sym second
