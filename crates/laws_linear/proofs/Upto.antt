-- What holds of a number and of all before it.
-- Main result: `last_or_before`. Assumes nothing.
use mathlib.Core.Path.{◌≡◌, sym, subst}
use Prim.Native.Nat.{ℕ, suc, ◌<◌}
use native.Mathlib.Decide.{ℕ_discrete}
use native.Mathlib.Omega.{arith}

-- c < suc k is c < k or c = k
pub last_or_before {ℓ} : {P : ℕ → Type ℓ} (k : ℕ) → P k → ((c : ℕ) → c < k → P c) → (c : ℕ) → c < suc k → P c
last_or_before {P = P} k last before c below = by (ℕ_discrete c k)
  where
    by : Dec (c ≡ k) → P c
    by (yes same) = subst P (sym same) last
    by (no other) = before c (omega arith)
