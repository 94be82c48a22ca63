-- What reading the fields of a term record asks for, and what it ensures.
-- Main definitions: `fields_of`, `RecordThere`, `FieldsRead`. Assume nothing.
use Rattle.std.specs.Prelude.{◌≡◌, List, ℕ, ◌+◌, ◌*◌, ◌<◌, ◌≤◌, length}
use Rattle.rules_problem.specs.Record.{Fields, fields_at}
use Rattle.record_fields.specs.declared.Fields as held

-- the fields that the code holds, as the rule has them
unfoldable pub fields_of : held.Fields → Fields
fields_of f = record { kind = f.kind; symbol = f.symbol; input1 = f.input1; input2 = f.input2; input3 = f.input3; mantissa = f.mantissa; shift = f.shift; padding = f.padding }

-- The eight bytes of a record are there from byte `first` on, which is no further on than the last record of a problem can begin.
pub record RecordThere (bytes : List ℕ) (first : ℕ) : Type 0 where
  pub early : first ≤ 512
  pub there : first + 8 ≤ length bytes

-- The fields of the record that begins with byte `first`; a shift has 4 bits.
pub record FieldsRead (bytes : List ℕ) (first : ℕ) (f : held.Fields) : Type 0 where
  pub same : fields_of f ≡ fields_at bytes (8 * first)
  pub small : f.shift < 16
