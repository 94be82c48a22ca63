-- What the cursor asks for, and what it ensures.
-- Main definitions: `Takeable`, `Readable`, `Cuttable`, `ByteRead`, `PieceRead`, `PieceCut`. Assume nothing.
use Rattle.std.specs.Prelude.{◌≡◌, List, ℕ, ◌+◌, ◌-◌, ◌*◌, ◌/◌, ◌%◌, ◌^◌, ◌<◌, ◌≤◌, length, get_or}
use Rattle.rules_problem.specs.Bits.{field}
use Rattle.record_cursor.specs.declared.Piece.{Piece}

-- A field that three bytes hold, at a position that does not wrap.
pub record Takeable (at width : ℕ) : Type 0 where
  pub narrow : width ≤ 16
  pub room : at + width < 2 ^ 64

-- And its bits are there.
pub record Readable (bytes : List ℕ) (at width : ℕ) : Type 0 where
  pub takeable : Takeable at width
  pub there : at + width ≤ 8 * length bytes

-- A field of 64 bits, counted from the highest of them.
pub record Cuttable (at width : ℕ) : Type 0 where
  pub some : 1 ≤ width
  pub narrow : width ≤ 16
  pub within : at + width ≤ 64

-- The byte at an index; 0 past the end.
pub record ByteRead (bytes : List ℕ) (index r : ℕ) : Type 0 where
  pub is : r ≡ get_or bytes index 0
  pub small : r < 256

-- A field that is there, and the cursor after it.
pub record PieceRead (bytes : List ℕ) (at width : ℕ) (piece : Piece) : Type 0 where
  pub value : piece.value ≡ field bytes at width
  pub small : piece.value < 2 ^ width
  pub after : piece.next.at ≡ at + width

-- A field of 64 bits that are one number, and the cursor after it.
pub record PieceCut (bits at width : ℕ) (piece : Piece) : Type 0 where
  pub value : piece.value ≡ bits / 2 ^ (64 - (at + width)) % 2 ^ width
  pub small : piece.value < 2 ^ width
  pub after : piece.next.at ≡ at + width
