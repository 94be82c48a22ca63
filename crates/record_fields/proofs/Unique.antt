-- The contract of `record_fields::read_fields` leaves one answer.
-- Main result: `read_fields_unique`. Assumes nothing.
use mathlib.Core.Path.{◌≡◌, sym, ◌∙◌}
use Rattle.unique.specs.Twice.{Twice}
use Rattle.record_fields.specs.Contract.{fields_of}
use Rattle.record_fields.proofs.read_fields.Kinds.{ps, r}
use Rattle.record_fields.proofs.read_fields.Reads.{Post}

pub read_fields_unique : Twice ps r Post λ κs a x y end end'. x ≡ y
unfolding fields_of
read_fields_unique κs a x y end end' first second =
    let same = first.same ∙ sym second.same in
    λ i. record { kind = (same i).kind; symbol = (same i).symbol; input1 = (same i).input1; input2 = (same i).input2; input3 = (same i).input3; mantissa = (same i).mantissa; shift = (same i).shift; padding = (same i).padding }
