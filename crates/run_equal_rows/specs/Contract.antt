-- What the functions that compare rows ask for, and the tests that they answer.
-- Main definitions: `BothGood`, `RowsStand`, `RowsWithin`, `TermsWithin`, `Comparable`, `num_at`, `same_column`, `same_at`. Assume nothing.
use Rattle.std.specs.Prelude.{Bool, List, ℕ, ◌+◌, ◌*◌, ◌<◌, ◌≤◌, ℤ, pos, length, get_or}
use Rattle.fraction.specs.declared.Fraction.{Fraction}
use Rattle.fraction.specs.Exact.{eq_ℚ}
use Rattle.fraction_reduce.specs.Values.{Good}
use Rattle.rules_run.specs.Row.{TERMS, COLUMNS, PLACES, column, same_to}
use Rattle.run_table.specs.Held.{row_at, SoundTo}
use Rattle.run_table.specs.Sets.{Within}
use Rattle.run_table.specs.Work.{Work, Rows}

-- two fractions in lowest terms
pub record BothGood (a b : Fraction) : Type 0 where
  pub left : Good a
  pub right : Good b

-- two sound rows, whose columns 0 stand at `left` and `right`
pub record RowsStand (left right : ℕ) (nums dens : List ℤ) : Type 0 where
  pub left_fits : left + COLUMNS ≤ PLACES
  pub right_fits : right + COLUMNS ≤ PLACES
  pub nums_fit : PLACES ≤ length nums
  pub dens_fit : PLACES ≤ length dens
  pub left_sound : SoundTo (left + COLUMNS) nums dens
  pub right_sound : SoundTo (right + COLUMNS) nums dens

-- and both hold 0 in the columns of terms outside a set
pub record RowsWithin (left right set : ℕ) (nums dens : List ℤ) : Type 0 where
  pub rows : RowsStand left right nums dens
  pub left_within : Within set left nums
  pub right_within : Within set right nums

-- two of n terms, whose rows hold 0 in the columns of terms outside a set
pub record TermsWithin (n t u set : ℕ) (nums dens : List ℤ) : Type 0 where
  pub few : n ≤ TERMS
  pub left : t < n
  pub right : u < n
  pub nums_fit : PLACES ≤ length nums
  pub dens_fit : PLACES ≤ length dens
  pub sound : SoundTo (COLUMNS * n) nums dens
  pub left_within : Within set (COLUMNS * t) nums
  pub right_within : Within set (COLUMNS * u) nums

-- two of n terms, each row of which holds 0 in the columns of terms outside its own set
pub record Comparable (n t u : ℕ) (w : Work) : Type 0 where
  pub rows : Rows n w
  pub left : t < n
  pub right : u < n

-- the numerator in column c of row t
abbrev pub num_at : (nums : List ℤ) → (t c : ℕ) → ℤ
num_at nums t c = get_or nums (COLUMNS * t + c) (pos 0)

-- whether the rows at `left` and `right` hold the same number in column c,
abbrev pub same_column : (nums dens : List ℤ) → (left right c : ℕ) → Bool
same_column nums dens left right c = eq_ℚ (column (row_at nums dens left) c) (column (row_at nums dens right) c)

-- and in each of the first columns
abbrev pub same_at : (nums dens : List ℤ) → (left right columns : ℕ) → Bool
same_at nums dens left right columns = same_to columns (row_at nums dens left) (row_at nums dens right)
