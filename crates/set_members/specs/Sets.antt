-- Sets of numbers, each set as the bits of one number.
-- Main definition: `holds`. Assumes nothing.
use Rattle.std.specs.Prelude.{Bool, ℕ, ◌/◌, ◌%◌, ◌^◌, eqb}

-- Whether number i is in the set: whether bit i of it is 1.
unfoldable pub holds : (set i : ℕ) → Bool
holds set i = eqb (set / 2 ^ i % 2) 1
