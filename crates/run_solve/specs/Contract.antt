-- What the functions that make the form of an unknown ask for, and what they ensure.
-- Main definitions: `Scalable`, `ScalableRow`, `scaled_in`, `ScalesRow`, `Formable`, `Forms`. Assume nothing.
use Rattle.std.specs.Prelude.{ℕ}
use Rattle.fraction.specs.declared.Fraction.{Fraction}
use Rattle.fraction.specs.Exact.{ℚ}
use Rattle.answer.specs.declared.Reason.{Reason}
use Rattle.fraction.specs.Made.{Made}
use Rattle.fraction_reduce.specs.Values.{value, Good}
use Rattle.rules_run.specs.Row.{COLUMNS}
use Rattle.rules_run.specs.Merge.{solved_column}
use Rattle.run_table.specs.Step.{Step}
use Rattle.run_table.specs.Lists.{Lists, row_in, RowWithin, Unknown}
use Rattle.run_table.specs.Loop.{RowMade}
use Rattle.run_table.specs.Reached.{reached}
use Rattle.run_table.specs.Sets.{Within}
use Rattle.run_solve.specs.Cell.{scaled_column}

-- a factor and a number to be multiplied by it
pub record Scalable (factor x : Fraction) : Type 0 where
  pub factor_good : Good factor
  pub number_good : Good x

-- A factor, and a row without a column outside the set: its columns of the set, and the constant's, are to be multiplied by the factor.
pub record ScalableRow (factor : Fraction) (set : ℕ) (d : Lists) : Type 0 where
  pub factor_good : Good factor
  pub row : RowWithin set 0 d

-- the columns of the row that is multiplied
abbrev pub scaled_in : (factor : Fraction) (set : ℕ) (d : Lists) → (c : ℕ) → Made Reason ℚ
scaled_in factor set d c = reached set (scaled_column (value factor) (row_in d 0)) (row_in d 0) c

-- The columns are multiplied, or one is refused; however it ends, a term's column outside the set holds 0.
pub record ScalesRow (factor : Fraction) (set : ℕ) (step : Step) (old new : Lists) : Type 0 where
  pub row_made : RowMade (scaled_in factor set old) 0 COLUMNS step old.nums old.dens new.nums new.dens
  pub within : Within set 0 new.nums

-- A difference without a column outside the set, and an unknown of the set: it is to be solved.
pub record Formable (p set : ℕ) (d : Lists) : Type 0 where
  pub unknown : Unknown p set
  pub row : RowWithin set 0 d

-- The difference becomes the form of p that the rule makes, or the rule refuses a column; however it ends, a term's column outside the set
-- holds 0.
pub record Forms (p set : ℕ) (step : Step) (old new : Lists) : Type 0 where
  pub row_made : RowMade (solved_column p (row_in old 0)) 0 COLUMNS step old.nums old.dens new.nums new.dens
  pub within : Within set 0 new.nums
