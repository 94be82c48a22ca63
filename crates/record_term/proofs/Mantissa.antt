-- The signed number of a mantissa.
-- Main result: `signed_mantissa`. Assumes nothing.
use mathlib.Core.Path.{◌≡◌, sym, ◌∙◌}
use Prim.Native.Nat.{ℕ, ◌≤◌, ◌<◌}
use native.Mathlib.Omega.{arith}
use native.Mathlib.Decide.{dec_lt}
use borrow.Author.Tests.{lt-ltb, le-ltb}
use mir.Syntax.{w16}
use mir.Val.{to_z}
use mir.Facts.{to_z_pos}
use Rattle.rules_problem.specs.Bits.{signed16}

pub signed_mantissa : (x : ℕ) → x < 65536 → to_z w16 x ≡ signed16 x
unfolding signed16
signed_mantissa x h = by (dec_lt x 32768)
  where
    by : Dec (x < 32768) → to_z w16 x ≡ signed16 x
    by (yes low) = to_z_pos w16 low ∙ sym (rw (lt-ltb x 32768 low))
    by (no high) =
        let least : 32768 ≤ x = omega arith in
        rw (le-ltb x 32768 least, lt-ltb x 65536 h)
