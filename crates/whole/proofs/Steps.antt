-- Euclid's rule, one step at a time.
-- Main results: `gcd_stops`, `gcd_step`. Assume nothing.
use mathlib.Core.Path.{◌≡◌, refl}
use Prim.Native.Nat.{ℕ, zero, suc, ◌%◌, ◌<◌}
use native.Mathlib.Nat.{mod-lt}
use native.Mathlib.Omega.{arith}
use Rattle.whole.specs.Gcd.{gcd, euclid}

-- more turns than enough change nothing
turns_enough : (t u a b : ℕ) → b < t → b < u → euclid t a b ≡ euclid u a b
unfolding euclid
turns_enough zero u a b h k = absurd (omega arith)
turns_enough (suc t) zero a b h k = absurd (omega arith)
turns_enough (suc t) (suc u) a zero h k = refl
turns_enough (suc t) (suc u) a (suc b) h k =
    let falls : a % suc b < suc b = mod-lt a (omega arith) in
    turns_enough t u (suc b) (a % suc b) (omega arith) (omega arith)

-- Nothing is left to divide by: the first number is the greatest common divisor.
pub gcd_stops : (a : ℕ) → gcd a 0 ≡ a
unfolding gcd euclid
gcd_stops a = refl

-- The greatest common divisor stays when the first number gives way to its remainder.
pub gcd_step : (a b : ℕ) → 0 < b → gcd a b ≡ gcd b (a % b)
unfolding gcd euclid
gcd_step a zero h = absurd (omega arith)
gcd_step a (suc b) h =
    let falls : a % suc b < suc b = mod-lt a (omega arith) in
    turns_enough (suc b) (suc (a % suc b)) (suc b) (a % suc b) (omega arith) (omega arith)
