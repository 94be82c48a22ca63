-- A chain of pieces, each read from the cursor that the one before left, is a header.
-- Main result: `header_read`. Assumes nothing.
use mathlib.Core.List.{List}
use Prim.Native.Nat.{ℕ}
use native.Mathlib.Omega.{arith}
use Rattle.record_cursor.specs.declared.Piece.{Piece}
use Rattle.record_cursor.specs.Contract.{PieceRead}
use Rattle.record_cursor.proofs.There.{value_at_lem}
use Rattle.record_reader.specs.Contract.{HeaderRead}

-- Four pieces in a chain are the header.
pub header_read : {bytes : List ℕ} {n m left right : Piece} → PieceRead bytes 0 8 n → PieceRead bytes n.next.at 8 m → PieceRead bytes m.next.at 8 left → PieceRead bytes left.next.at 8 right → HeaderRead bytes (record { n = n.value; m = m.value; left = left.value; right = right.value })
header_read n m left right =
    record { terms = n.value; pairs = value_at_lem 8 m (omega arith); left = value_at_lem 16 left (omega arith); right = value_at_lem 24 right (omega arith) }
