-- What a list laid out by rows and columns holds at row t, column c.
-- Main result: `laid_out_at`. Assumes nothing.
use mathlib.Core.Path.{◌≡◌, ap₂, ◌∙◌}
use mathlib.Core.List.{List}
use Prim.Native.Nat.{ℕ, ◌+◌, ◌*◌, ◌/◌, ◌%◌, ◌≤◌, ◌<◌}
use native.Mathlib.Omega.{arith}
use lib.ListN.{length, get_or}
use lib.IntN.{ℤ, pos}
use Rattle.rules_run.specs.Row.{TERMS, COLUMNS, PLACES}
use Rattle.rules_outcome.specs.Outcome.{laid_out}
use Rattle.rules_outcome.proofs.Laid.{overwritten_below}

-- Row t, column c stands at a place of its own.
place : (t c : ℕ) → t < TERMS → c < COLUMNS → (COLUMNS * t + c < PLACES) × ((COLUMNS * t + c) / COLUMNS ≡ t) × ((COLUMNS * t + c) % COLUMNS ≡ c)
place t c row column = omega arith

-- "row t, column c stands at 65t + c": a list that is long enough holds there what was laid out for row t and column c.
pub laid_out_at : (g : (t c : ℕ) → ℤ) (list : List ℤ) (t c : ℕ) → PLACES ≤ length list → t < TERMS → c < COLUMNS → get_or (laid_out g list) (COLUMNS * t + c) (pos 0) ≡ g t c
unfolding laid_out
laid_out_at g list t c long row column =
    let (within, row_is, column-is) = place t c row column in
    overwritten_below PLACES (λ p. g (p / COLUMNS) (p % COLUMNS)) list (COLUMNS * t + c) within (omega arith) ∙ ap₂ g row_is column-is
