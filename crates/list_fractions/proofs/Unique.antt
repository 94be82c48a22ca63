-- Each contract leaves one answer.
-- Main results: a law NAME_unique for each public function NAME. Assume nothing.
use mathlib.Core.Path.{◌≡◌, sym, ◌∙◌}
use Rattle.unique.specs.Twice.{Twice}
use Rattle.list_fractions.proofs.is_fraction.Kinds as one-kinds
use Rattle.list_fractions.proofs.is_fraction.Reads as one-reads
use Rattle.list_fractions.proofs.all_fractions.Kinds as all_kinds
use Rattle.list_fractions.proofs.all_fractions.Reads as all-reads

pub is_fraction_unique : Twice one-kinds.ps one-kinds.r one-reads.Post λ κs a x y end end'. x ≡ y
is_fraction_unique κs a x y end end' first second = first ∙ sym second

pub all_fractions_unique : Twice all_kinds.ps all_kinds.r all-reads.Post λ κs a x y end end'. x ≡ y
all_fractions_unique κs a x y end end' first second = first ∙ sym second
