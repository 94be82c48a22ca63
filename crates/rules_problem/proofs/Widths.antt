-- How great the numbers of a record's fields are.
-- Main results: `field_below`, `signed16_within`, `scaled_in_record`. Assume nothing.
use mathlib.Core.Path.{◌≡◌, refl}
use mathlib.Core.Bool.{Bool, true, false, cond}
use mathlib.Core.List.{List}
use Prim.Native.Nat.{ℕ, zero, suc, ◌+◌, ◌-◌, ◌^◌, ◌≤◌, ◌<◌}
use native.Mathlib.Nat.{mod-lt, pow-suc, mul_comm}
use native.Mathlib.Omega.{arith}
use lib.Arith.{digits_lt}
use lib.Dec.{ltb}
use borrow.Author.Tests.{ltb-true, ltb-false}
use lib.IntN.{pos, negsuc, nat_abs, ◌-ℤ◌}
use Rattle.fraction.specs.InRecord.{InRecord}
use Rattle.rules_problem.specs.Bits.{bit_at, field, signed16}
use Rattle.rules_problem.specs.Record.{fields_at, scaled}

-- A field of `width` bits is below 2 ^ width.
pub field_below : (bytes : List ℕ) (width p : ℕ) → field bytes p width < 2 ^ width
unfolding field bit_at
field_below bytes zero p = omega arith
field_below bytes (suc width) p =
    rw (pow-suc, mul_comm (2 ^ width) 2) (digits_lt (mod-lt _ (omega arith)) (field_below bytes width (p + 1)))

size_either : (t : Bool) (x y n : ℕ) → suc x ≤ n → y ≤ n → nat_abs (cond t (negsuc x) (pos y)) ≤ n
size_either true x y n h k = h
size_either false x y n h k = k

-- A field of 16 bits stands for a number from -32,768 to 32,767.
pub signed16_within : (x : ℕ) → x < 65536 → nat_abs (signed16 x) ≤ 32768
unfolding signed16
signed16_within x h = go (ltb x 32768) refl
  where
    go : (t : Bool) → ltb x 32768 ≡ t → nat_abs (cond t (pos x) (pos x -ℤ pos 65536)) ≤ 32768
    go true e = omega (arith, ltb-true x 32768 e)
    go false e =
        let least = ltb-false x 32768 e in
        size_either (ltb x 65536) (65536 - suc x) (x - 65536) 32768 (omega arith) (omega arith)

-- The fraction of every record is one that a record can hold.
pub scaled_in_record : (bytes : List ℕ) (p : ℕ) → InRecord (scaled (fields_at bytes p))
unfolding scaled fields_at
scaled_in_record bytes p = record { mantissa = signed16_within (field bytes (p + 36) 16) (field_below bytes 16 (p + 36)); shift = field_below bytes 4 (p + 52) }
