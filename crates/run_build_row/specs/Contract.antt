-- What the functions that build the row of one term ask for, and what they ensure. The row is made blank first, and then written from
-- column to column of a set, outside of which the rule makes 0.
-- Main definitions: `column_built`, `cell_at`, `Room`, `Behind`, `RowBuilt`, `TermBuildable`, `TermBuilt`, and a record for what each of the
-- other functions asks for or ensures. Assume nothing.
use Rattle.std.specs.Prelude.{◌≡◌, true, List, ℕ, ◌+◌, ◌*◌, ◌≤◌, ◌<◌, length, get_or, ℤ, Ok}
use Rattle.set_members.specs.Sets.{holds}
use Rattle.fraction.specs.declared.Fraction.{Fraction}
use Rattle.fraction.specs.Exact.{ℚ}
use Rattle.answer.specs.declared.Reason.{Reason}
use Rattle.fraction.specs.Made.{Made, made}
use Rattle.fraction_reduce.specs.Values.{Good}
use Rattle.rules_problem.specs.declared.Kind.{Kind}
use Rattle.rules_run.specs.Row.{TERMS, COLUMNS, PLACES, row}
use Rattle.rules_run.specs.Build.{alone, built_column}
use Rattle.run_table.specs.Step.{Step}
use Rattle.run_table.specs.Held.{held_at, row_at, table_at, SoundTo, stepped}
use Rattle.run_table.specs.Lists.{Lists}
use Rattle.run_table.specs.Loop.{Kept, RowMade}
use Rattle.run_table.specs.Sets.{SETS, Within, Sparse}
use Rattle.run_table.specs.Work.{Work, Rows}
use Rattle.run_build_row.specs.Buildable.{InputsEarlier, Buildable, FactorOf, Combined}
use Rattle.run_build_row.specs.Sparse.{Covered, Blank}

-- column c of row t as the rule makes it of the rows before it
abbrev pub column_built : (kind : Kind) → (t : ℕ) → Lists → (c : ℕ) → Made Reason ℚ
column_built kind t l c = built_column (table_at t l.nums l.dens) t kind c

-- the fraction that stands in column c of row t
abbrev pub cell_at : (t c : ℕ) → Lists → Fraction
cell_at t c l = held_at l.nums l.dens (COLUMNS * t + c)

-- Both lists have room for the row of term t.
pub record Room (t : ℕ) (l : Lists) : Type 0 where
  pub few : t < TERMS
  pub nums_fit : PLACES ≤ length l.nums
  pub dens_fit : PLACES ≤ length l.dens

-- They have column c of that row.
pub record CellReadable (t c : ℕ) (l : Lists) : Type 0 where
  pub room : Room t l
  pub column : c < COLUMNS

-- There is room for row t, and the rows before it are sound.
pub record Behind (t : ℕ) (l : Lists) : Type 0 where
  pub room : Room t l
  pub sound : SoundTo (COLUMNS * t) l.nums l.dens

-- Column c of row t can be combined from earlier rows.
pub record Combinable (kind : Kind) (factor : Fraction) (t c : ℕ) (l : Lists) : Type 0 where
  pub rows : Behind t l
  pub column : c < COLUMNS
  pub inputs : InputsEarlier t kind
  pub fraction : FactorOf kind factor
  pub combined : Combined kind

-- Row t is made blank, and no other place has changed.
pub record Blanks (t : ℕ) (old new : Lists) : Type 0 where
  pub kept : Kept (COLUMNS * t) (COLUMNS * t + COLUMNS) old.nums old.dens new.nums new.dens
  pub blank : Blank t new.nums new.dens

-- The sets say which columns the inputs of term t have.
pub record Coverable (kind : Kind) (t : ℕ) (sets : List ℕ) : Type 0 where
  pub few : t < TERMS
  pub size : length sets ≡ SETS
  pub inputs : InputsEarlier t kind

-- Row t is blank, behind sound rows.
pub record Blanked (t : ℕ) (l : Lists) : Type 0 where
  pub rows : Behind t l
  pub blank : Blank t l.nums l.dens

-- And one column of it can take the fraction f.
pub record Placeable (t only : ℕ) (f : Fraction) (l : Lists) : Type 0 where
  pub row : Blanked t l
  pub column : only < COLUMNS
  pub good : Good f

-- Row t holds q in one column and 0 in all others; so it is within every set that has that column, if it is a term's.
pub record StandsAlone (t only : ℕ) (q : ℚ) (step : Step) (old new : Lists) : Type 0 where
  pub row_made : RowMade (λ c. made (alone only q c)) (COLUMNS * t) (COLUMNS * (t + 1)) step old.nums old.dens new.nums new.dens
  pub within : (set : ℕ) → (only < TERMS → holds set only ≡ true) → Within set (COLUMNS * t) new.nums

-- Row t is blank, its term can be built, and the rule makes 0 of each term's column outside the set.
pub record Makeable (kind : Kind) (factor : Fraction) (t columns : ℕ) (l : Lists) : Type 0 where
  pub row : Blanked t l
  pub inputs : InputsEarlier t kind
  pub fraction : FactorOf kind factor
  pub covered : Covered columns (column_built kind t l)

-- And it is made of earlier rows.
pub record Joinable (kind : Kind) (factor : Fraction) (t columns : ℕ) (l : Lists) : Type 0 where
  pub asked : Makeable kind factor t columns l
  pub combined : Combined kind

-- Row t is the one that the rule makes of the rows before it, or the rule refuses it; no other place has changed; where it is made, the
-- rows up to it are sound.
pub record RowBuilt (kind : Kind) (t : ℕ) (step : Step) (nums₀ dens₀ nums dens : List ℤ) : Type 0 where
  pub ends : row (built_column (table_at t nums₀ dens₀) t kind) ≡ stepped step (row_at nums dens (COLUMNS * t))
  pub kept : Kept (COLUMNS * t) (COLUMNS * t + COLUMNS) nums₀ dens₀ nums dens
  pub sound : step ≡ Ok tt → SoundTo (COLUMNS * (t + 1)) nums dens

-- It is built within the set.
pub record Makes (kind : Kind) (t columns : ℕ) (step : Step) (old new : Lists) : Type 0 where
  pub built : RowBuilt kind t step old.nums old.dens new.nums new.dens
  pub within : Within columns (COLUMNS * t) new.nums

-- Term t can be built behind the rows of the terms before it.
pub record TermBuildable (kind : Kind) (t : ℕ) (w : Work) : Type 0 where
  pub few : t < TERMS
  pub rows : Rows t w
  pub term : Buildable t kind

-- Row t is built, or refused, and its columns are noted in its set; no other set has changed.
pub record TermBuilt (kind : Kind) (t : ℕ) (step : Step) (old new : Work) : Type 0 where
  pub built : RowBuilt kind t step old.nums old.dens new.nums new.dens
  pub sparse : Sparse (t + 1) new.nums new.sets
  pub size : length new.sets ≡ length old.sets
  pub others : (k : ℕ) → (k ≡ t → ⊥) → get_or new.sets k 0 ≡ get_or old.sets k 0
