-- What the difference of two rows asks for, and what it ensures.
-- Main definitions: `Subtractable`, `apart`, `Subtracts`. Assume nothing.
use Rattle.std.specs.Prelude.{ℕ}
use Rattle.fraction.specs.Exact.{ℚ}
use Rattle.fraction.specs.Limits.{minus}
use Rattle.answer.specs.declared.Reason.{Reason}
use Rattle.fraction.specs.Made.{Made}
use Rattle.rules_run.specs.Row.{COLUMNS, column}
use Rattle.run_table.specs.Step.{Step}
use Rattle.run_table.specs.Lists.{Lists, row_in, RowWithin}
use Rattle.run_table.specs.Loop.{RowMade}
use Rattle.run_table.specs.Sets.{Within}

-- Two rows that stand in the lists, neither with a column outside the set, and a row of zeros in two lists of its own.
pub record Subtractable (left right set : ℕ) (rows d : Lists) : Type 0 where
  pub left_row : RowWithin set left rows
  pub right_row : RowWithin set right rows
  pub zeros : RowWithin 0 0 d

-- 01, Merge: column c of "the difference of the two rows"
abbrev pub apart : (left right : ℕ) (rows : Lists) → (c : ℕ) → Made Reason ℚ
apart left right rows c = minus (column (row_in rows left) c) (column (row_in rows right) c)

-- The row of zeros becomes the difference, or a column is refused; however it ends, a term's column outside the set holds 0.
pub record Subtracts (left right set : ℕ) (step : Step) (rows old new : Lists) : Type 0 where
  pub row_made : RowMade (apart left right rows) 0 COLUMNS step old.nums old.dens new.nums new.dens
  pub within : Within set 0 new.nums
