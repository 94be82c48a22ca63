-- What the cursor takes at a bit position.
-- Main definitions: `taken_at`, `number_at`. Assume nothing.
use Rattle.std.specs.Prelude.{cond, List, ℕ, zero, suc, ◌+◌, ◌*◌, length, get_or, leb, None, Option, Some}
use Rattle.rules_problem.specs.Bits.{field}
use Rattle.record_cursor.specs.declared.Piece.{Piece}

-- 01, The problem record: "The reader works as a bit cursor that gives a field and the cursor after it": the field, if its bits
-- are there, and the position after it
unfoldable pub taken_at : List ℕ → (at width : ℕ) → Option Piece
taken_at bytes at width = cond (leb (at + width) (8 * length bytes)) (Some (record { value = field bytes at width; next = record { at = at + width } })) None

-- `count` bytes from `first` on as one number, the first the highest
unfoldable pub number_at : List ℕ → (first count : ℕ) → ℕ
number_at bytes first zero = 0
number_at bytes first (suc count) = number_at bytes first count * 256 + get_or bytes (first + count) 0
