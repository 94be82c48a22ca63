-- A chain of pieces of the number of eight bytes, each cut from the cursor that the one before left, is a record.
-- Main result: `fields_cut`. Assumes nothing.
use mathlib.Core.Path.{◌≡◌}
use mathlib.Core.List.{List}
use Prim.Native.Nat.{ℕ, ◌+◌, ◌*◌, ◌<◌}
use native.Mathlib.Omega.{arith}
use lib.ListN.{get_or}
use Rattle.rules_problem.specs.Record.{fields_at}
use Rattle.record_cursor.specs.declared.Piece.{Piece}
use Rattle.record_cursor.specs.Contract.{PieceCut}
use Rattle.record_cursor.specs.Taken.{number_at}
use Rattle.record_cursor.proofs.Bits.{cut_field}
use Rattle.record_fields.specs.Contract.{fields_of, FieldsRead}

-- Eight pieces in a chain are the fields of the record.
pub fields_cut : (bytes : List ℕ) (first : ℕ) → ((i : ℕ) → get_or bytes i 0 < 256) → {bits : ℕ} {kind symbol input1 input2 input3 mantissa shift padding : Piece} → bits ≡ number_at bytes first 8 → PieceCut bits 0 4 kind → PieceCut bits kind.next.at 8 symbol → PieceCut bits symbol.next.at 8 input1 → PieceCut bits input1.next.at 8 input2 → PieceCut bits input2.next.at 8 input3 → PieceCut bits input3.next.at 16 mantissa → PieceCut bits mantissa.next.at 4 shift → PieceCut bits shift.next.at 8 padding → FieldsRead bytes first (record { kind = kind.value; symbol = symbol.value; input1 = input1.value; input2 = input2.value; input3 = input3.value; mantissa = mantissa.value; shift = shift.value; padding = padding.value })
unfolding fields_of fields_at
fields_cut bytes first small eight k s a b c m e z =
    record {
      same =
          λ i.
          record {
            kind = cut_field bytes first small p eight k (omega arith) (omega arith) i;
            symbol = cut_field bytes first small (p + 4) eight s (omega arith) (omega arith) i;
            input1 = cut_field bytes first small (p + 12) eight a (omega arith) (omega arith) i;
            input2 = cut_field bytes first small (p + 20) eight b (omega arith) (omega arith) i;
            input3 = cut_field bytes first small (p + 28) eight c (omega arith) (omega arith) i;
            mantissa = cut_field bytes first small (p + 36) eight m (omega arith) (omega arith) i;
            shift = cut_field bytes first small (p + 52) eight e (omega arith) (omega arith) i;
            padding = cut_field bytes first small (p + 56) eight z (omega arith) (omega arith) i;
          };
      small = e.small;
    }
  where
    p : ℕ
    p = 8 * first
