-- What a loop over the columns of one row keeps, whatever the rule is that makes the columns.
-- Main definitions: `Kept`, `Making`, `RowMade`. Assumes nothing.
use Rattle.std.specs.Prelude.{◌≡◌, ◌⊎◌, List, ℕ, ◌+◌, ◌≤◌, ◌<◌, length, ℤ}
use Rattle.fraction.specs.Exact.{ℚ}
use Rattle.fraction_reduce.specs.Values.{value}
use Rattle.answer.specs.declared.Reason.{Reason}
use Rattle.fraction.specs.Made.{Made, made}
use Rattle.rules_run.specs.Row.{COLUMNS, row}
use Rattle.run_table.specs.Step.{Step}
use Rattle.run_table.specs.Held.{held_at, row_at, SoundTo, stepped}

-- Both lists keep their lengths, and every place but those from `base` up to `end` keeps what it holds.
pub record Kept (base end : ℕ) (nums₀ dens₀ nums dens : List ℤ) : Type 0 where
  pub nums_length : length nums ≡ length nums₀
  pub dens_length : length dens ≡ length dens₀
  pub outside : (k : ℕ) → (k < base) ⊎ (end ≤ k) → held_at nums dens k ≡ held_at nums₀ dens₀ k

-- In a loop that makes the columns of the row at `base` by the rule g: the columns below j are made, nothing else has changed,
-- and what was sound is sound.
pub record Making (g : ℕ → Made Reason ℚ) (base m j : ℕ) (nums₀ dens₀ nums dens : List ℤ) : Type 0 where
  pub kept : Kept base (base + j) nums₀ dens₀ nums dens
  pub made_below : (c : ℕ) → c < j → g c ≡ made (value (held_at nums dens (base + c)))
  pub sound : SoundTo m nums dens

-- The loop is over: the row at `base` is the one that the rule makes, or the rule refuses it; no other place has changed.
pub record RowMade (g : ℕ → Made Reason ℚ) (base m : ℕ) (step : Step) (nums₀ dens₀ nums dens : List ℤ) : Type 0 where
  pub ends : row g ≡ stepped step (row_at nums dens base)
  pub kept : Kept base (base + COLUMNS) nums₀ dens₀ nums dens
  pub sound : SoundTo m nums dens
