-- Two lists with the same numbers laid out in them begin alike.
-- Main result: `laid_out_alike`. Assumes nothing.
use mathlib.Core.Path.{◌≡◌, refl, ap₂}
use mathlib.Core.List.{List, [], ◌∷◌}
use Prim.Native.Nat.{ℕ, zero, suc, ◌/◌, ◌%◌, ◌≤◌, ◌<◌}
use native.Mathlib.Nat.{le_of_suc-le-suc}
use native.Mathlib.Omega.{arith}
use lib.ListN.{length, take}
use lib.IntN.{ℤ}
use Rattle.rules_run.specs.Row.{COLUMNS, PLACES}
use Rattle.rules_outcome.specs.Outcome.{overwritten, laid_out}

-- Two lists, each long enough, whose first places were overwritten with the same numbers have the same first places.
overwritten_alike : (count : ℕ) (g h : ℕ → ℤ) (list other : List ℤ) → count ≤ length list → count ≤ length other → ((p : ℕ) → p < count → g p ≡ h p) → take count (overwritten count g list) ≡ take count (overwritten count h other)
unfolding overwritten
overwritten_alike zero g h list other long long' same = refl
overwritten_alike (suc count) g h [] other long long' same = absurd (omega arith)
overwritten_alike (suc count) g h (x ∷ list) [] long long' same = absurd (omega arith)
overwritten_alike (suc count) g h (x ∷ list) (y ∷ other) long long' same =
    ap₂ ◌∷◌ (same 0 (omega arith)) (overwritten_alike count (λ p. g (suc p)) (λ p. h (suc p)) list other (le_of_suc-le-suc long) (le_of_suc-le-suc long') (λ p below. same (suc p) (omega arith)))

-- Numbers laid out by rows and columns.
pub laid_out_alike : (g h : (t c : ℕ) → ℤ) (list other : List ℤ) → PLACES ≤ length list → PLACES ≤ length other → ((t c : ℕ) → c < COLUMNS → g t c ≡ h t c) → take PLACES (laid_out g list) ≡ take PLACES (laid_out h other)
unfolding laid_out
laid_out_alike g h list other long long' same =
    overwritten_alike PLACES (λ p. g (p / COLUMNS) (p % COLUMNS)) (λ p. h (p / COLUMNS) (p % COLUMNS)) list other long long' (λ p below. same (p / COLUMNS) (p % COLUMNS) (omega arith))
