-- A size with the sign of another number.
-- Main definition: `signed`. Assumes nothing.
use Rattle.std.specs.Prelude.{ℕ, ℤ, pos, negsuc, neg_ℤ}

-- `size`, with the sign of the first number
unfoldable pub signed : ℤ → (size : ℕ) → ℤ
signed (pos n) size = pos size
signed (negsuc n) size = neg_ℤ (pos size)
