-- The fractions that a term record can hold.
-- Main definition: `InRecord`. Assumes nothing.
use Rattle.std.specs.Prelude.{◌≤◌, ◌<◌, nat_abs}
use Rattle.fraction.specs.declared.Scaled.{Scaled}

-- 01, The problem record: "mantissa 16 (signed, two's complement), shift 4" bits
pub record InRecord (s : Scaled) : Type 0 where
  pub mantissa : nat_abs s.mantissa ≤ 32768
  pub shift : s.shift < 16
