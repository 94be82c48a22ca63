-- The term count, which is the first byte.
-- Main results: `no_bytes`, `first_byte`. Assume nothing.
use mathlib.Core.Path.{◌≡◌, refl}
use mathlib.Core.List.{List, [], ◌∷◌}
use Prim.Native.Nat.{ℕ, ◌<◌}
use native.Mathlib.Omega.{arith}
use lib.ListN.{length, get_or}
use mir.Syntax.{w8}
use mir.Val.{Fits}
use Rattle.rules_problem.specs.Bits.{bit_at, field}
use Rattle.record_cursor.specs.Taken.{number_at}
use Rattle.record_cursor.proofs.Bits.{field_number}

-- A byte string of no bytes has no terms,
pub no_bytes : (bytes : List ℕ) → length bytes ≡ 0 → 0 ≡ field bytes 0 8
unfolding field bit_at
no_bytes [] none = refl
no_bytes (byte ∷ bytes) none = absurd (omega arith)

-- and any other as many as its first byte says.
pub first_byte : (bytes : List ℕ) → ((i : ℕ) → Fits w8 (get_or bytes i 0)) → get_or bytes 0 0 ≡ field bytes 0 8
unfolding number_at
first_byte bytes small =
    let below : (i : ℕ) → get_or bytes i 0 < 256 = λ i. omega (arith, small i) in
    omega (arith, below 0, field_number bytes 0 below 1 8 0 0 refl)
