-- The number of a refusal: its contract leaves one answer.
-- Main result: `number_unique`. Assumes nothing.
use mathlib.Core.Path.{◌≡◌, sym, ◌∙◌}
use Rattle.unique.specs.Twice.{Twice}
use Rattle.answer.proofs.Reason.number.Kinds as number-kinds
use Rattle.answer.proofs.Reason.number.Reads as number

pub number_unique : Twice number-kinds.ps number-kinds.r number.Post λ κs a x y end end'. x ≡ y
number_unique κs a x y end end' first second = first ∙ sym second
