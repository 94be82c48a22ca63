-- What the functions of a fold ask for, and what they ensure: of one number, of the columns of a row, of a row and its sets, of all rows.
-- Main definitions: `Gainable`, `GainableRow`, `GainsRow`, `FoldableAt`, `FoldsAt`, `SetsNotable`, `Noted`, `FoldableRow`, `FoldsRow`,
-- `Passable`, `Passed`, `Foldable`, `Folds`. Assume nothing.
use Rattle.std.specs.Prelude.{◌≡◌, ◌⊎◌, ◌≢◌, not, ◌&&◌, ◌||◌, List, ℕ, ◌+◌, ◌*◌, ◌≤◌, ◌<◌, eqb, ℤ, pos, length, get_or, Ok}
use Rattle.set_members.specs.Sets.{holds}
use Rattle.fraction.specs.declared.Fraction.{Fraction}
use Rattle.fraction.specs.Exact.{ℚ}
use Rattle.answer.specs.declared.Reason.{Reason}
use Rattle.fraction.specs.Made.{Made}
use Rattle.fraction_reduce.specs.Values.{value, Good}
use Rattle.rules_run.specs.Row.{TERMS, COLUMNS, PLACES}
use Rattle.rules_run.specs.Merge.{folded_column, folded}
use Rattle.run_table.specs.Step.{Step}
use Rattle.run_table.specs.Held.{SoundTo, stepped}
use Rattle.run_table.specs.Lists.{Lists, both, row_in, RowHeld, RowWithin, Unknown}
use Rattle.run_table.specs.Loop.{Kept, RowMade}
use Rattle.run_table.specs.Reached.{reached}
use Rattle.run_table.specs.Sets.{SETS, PENDING, columns_of, users_of, pending_of, Sparse, Stirred}
use Rattle.run_table.specs.Work.{Work, table_of, Rows}
use Rattle.run_fold.specs.Cell.{gained_column}

-- a coefficient, a number of the form, and one that gains the first times the second
pub record Gainable (k form old : Fraction) : Type 0 where
  pub coefficient_good : Good k
  pub form_good : Good form
  pub number_good : Good old

-- a row at `base` whose columns are to gain k times the form's
pub record GainableRow (base : ℕ) (k : Fraction) (rows form : Lists) : Type 0 where
  pub coefficient_good : Good k
  pub row : RowHeld base rows
  pub form_row : RowHeld 0 form

-- the columns of the row that has gained in the columns of the set, and in the constant's
abbrev pub gained_in : (base : ℕ) (k : Fraction) (set : ℕ) (rows form : Lists) → (c : ℕ) → Made Reason ℚ
gained_in base k set rows form c = reached set (gained_column (value k) (row_in form 0) (row_in rows base)) (row_in rows base) c

-- The columns have gained, or one is refused; no other row has changed.
pub record GainsRow (base : ℕ) (k : Fraction) (set : ℕ) (form : Lists) (step : Step) (old new : Lists) : Type 0 where
  pub row_made : RowMade (gained_in base k set old form) base (base + COLUMNS) step old.nums old.dens new.nums new.dens

-- a row at `base`, and a form of the unknown p, which has no column outside the set
pub record FoldableAt (base p set : ℕ) (rows form : Lists) : Type 0 where
  pub unknown : Unknown p set
  pub row : RowHeld base rows
  pub form_row : RowWithin set 0 form

-- the columns of the row with the form folded in
abbrev pub folded_in : (base p : ℕ) (rows form : Lists) → (c : ℕ) → Made Reason ℚ
folded_in base p rows form c = folded_column p (row_in form 0) (row_in rows base) c

-- The form is folded into the row as the rule does it, or a column is refused; no other row has changed.
pub record FoldsAt (base p : ℕ) (form : Lists) (step : Step) (old new : Lists) : Type 0 where
  pub row_made : RowMade (folded_in base p old form) base (base + COLUMNS) step old.nums old.dens new.nums new.dens

-- a row and an unknown to be noted in the sets
pub record SetsNotable (t p : ℕ) (sets : List ℕ) : Type 0 where
  pub row : t < TERMS
  pub unknown : p < TERMS
  pub size : length sets ≡ SETS

-- The form of p, with the columns of `set`, comes into row t: the row has its columns and those, without p; the users of t are
-- pending, with what was; nothing else changes.
pub record Noted (t p set : ℕ) (sets₀ sets : List ℕ) : Type 0 where
  pub same_length : length sets ≡ length sets₀
  pub others : (k : ℕ) → k ≢ t → k ≢ PENDING → get_or sets k 0 ≡ get_or sets₀ k 0
  pub columns : (c : ℕ) → holds (columns_of sets t) c ≡ (not (eqb c p) && (holds (columns_of sets₀ t) c || holds set c))
  pub pending : (j : ℕ) → holds (pending_of sets) j ≡ (holds (pending_of sets₀) j || holds (users_of sets₀ t) j)

-- row t, into which a form is to be folded, and the sets
pub record FoldableRow (t p set : ℕ) (form : Lists) (w : Work) : Type 0 where
  pub term : t < TERMS
  pub size : length w.sets ≡ SETS
  pub columns : FoldableAt (COLUMNS * t) p set (both w.nums w.dens) form

-- The form is folded into row t. Either nothing has changed, neither the lists nor the sets, or the fold is noted.
pub record FoldsRow (t p set : ℕ) (form : Lists) (step : Step) (old new : Work) : Type 0 where
  pub columns : FoldsAt (COLUMNS * t) p form step (both old.nums old.dens) (both new.nums new.dens)
  pub noted : (new ≡ old) ⊎ Noted t p set old.sets new.sets

-- a row from which on the rows below n that hold p are sought
pub record Passable (n p from : ℕ) (nums : List ℤ) : Type 0 where
  pub few : n ≤ TERMS
  pub unknown : p < TERMS
  pub from_here : from ≤ n
  pub fit : PLACES ≤ length nums

-- r is a row from `from` on, or n, and the rows between hold 0 at p
pub record Passed (n p from r : ℕ) (nums : List ℤ) : Type 0 where
  pub forward : from ≤ r
  pub most : r ≤ n
  pub nothing : (t : ℕ) → from ≤ t → t < r → get_or nums (COLUMNS * t + p) (pos 0) ≡ pos 0

-- n rows, and a form of the unknown p, which has no column outside the set
pub record Foldable (n p set : ℕ) (form : Lists) (w : Work) : Type 0 where
  pub rows : Rows n w
  pub unknown : Unknown p set
  pub form_row : RowWithin set 0 form

-- The table becomes the one that the rule folds, or the rule refuses a column. Nothing behind the n rows changes, and the rows are sound;
-- the sets say which columns they have, where the fold is done, and which lookups have to be looked at again, however it ends.
pub record Folds (n p : ℕ) (form : Lists) (step : Step) (old new : Work) : Type 0 where
  pub ends : folded p (row_in form 0) (table_of n old) ≡ stepped step (table_of n new)
  pub kept : Kept 0 (COLUMNS * n) old.nums old.dens new.nums new.dens
  pub sound : SoundTo (COLUMNS * n) new.nums new.dens
  pub sparse : step ≡ Ok tt → Sparse n new.nums new.sets
  pub stirred : Stirred n old.nums old.dens new.nums new.dens old.sets new.sets
