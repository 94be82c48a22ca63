-- The contract of `answer_numbers::in_numbers` leaves one answer.
-- Main result: `in_numbers_unique`. Assumes nothing.
use mathlib.Core.Path.{◌≡◌, sym, ◌∙◌}
use Rattle.unique.specs.Twice.{Twice}
use Rattle.answer_numbers.proofs.in_numbers.Kinds.{ps, r}
use Rattle.answer_numbers.proofs.in_numbers.Reads.{Post}

pub in_numbers_unique : Twice ps r Post λ κs a x y end end'. x ≡ y
in_numbers_unique κs a x y end end' first second = first ∙ sym second
