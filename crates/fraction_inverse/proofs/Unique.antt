-- Each contract leaves one answer.
-- Main results: a law NAME_unique for each public function NAME. Assume nothing.
use mathlib.Core.Path.{◌≡◌}
use Rattle.unique.specs.Twice.{Twice}
use Rattle.fraction_reduce.proofs.Unique.{stands_determined}
use Rattle.fraction_inverse.proofs.inverted.Kinds as inverted-kinds
use Rattle.fraction_inverse.proofs.inverted.Reads as inverted
use Rattle.fraction_inverse.proofs.negated.Kinds as negated-kinds
use Rattle.fraction_inverse.proofs.negated.Reads as negated

pub negated_unique : Twice negated-kinds.ps negated-kinds.r negated.Post λ κs a x y end end'. x ≡ y
negated_unique κs a x y end end' first second = stands_determined first second

pub inverted_unique : Twice inverted-kinds.ps inverted-kinds.r inverted.Post λ κs a x y end end'. x ≡ y
inverted_unique κs a x y end end' first second = stands_determined first second
