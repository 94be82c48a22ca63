-- Fields of a bit-packed byte string.
-- Main definition: `field`. Assumes nothing.
use Rattle.std.specs.Prelude.{cond, List, ℕ, zero, suc, ◌+◌, ◌-◌, ◌*◌, ◌/◌, ◌%◌, ◌^◌, get_or, ltb, ℤ, pos, ◌-ℤ◌}

-- 01, The problem record: "Bit-packed, most significant bit first."
unfoldable pub bit_at : List ℕ → ℕ → ℕ
bit_at bytes p = get_or bytes (p / 8) 0 / 2 ^ (7 - p % 8) % 2

-- the number in `width` bits from bit `p`
unfoldable pub field : List ℕ → (p width : ℕ) → ℕ
field bytes p zero = 0
field bytes p (suc width) = bit_at bytes p * 2 ^ width + field bytes (p + 1) width

-- "mantissa 16 (signed, two's complement)"
unfoldable pub signed16 : ℕ → ℤ
signed16 x = cond (ltb x 32768) (pos x) (pos x -ℤ pos 65536)
