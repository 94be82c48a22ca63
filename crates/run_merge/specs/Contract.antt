-- What the functions of a merge ask for, and what they ensure.
-- Main definitions: `Mergeable`, `Settleable`, `Solvable`, `Hints`, `Left`, `state_of`, `Solves`, `Settles`, `Merges`. Assume nothing.
use Rattle.std.specs.Prelude.{◌≡◌, ℕ, ◌*◌, ◌<◌, ◌≤◌, length, IfOk, OnOk, Result}
use Rattle.fraction.specs.Made.{because}
use Rattle.rules_run.specs.Row.{Row, TERMS, COLUMNS}
use Rattle.rules_run.specs.Merge.{State, refused_for, pivot, solve, settle, merge}
use Rattle.run_pivot.specs.Contract.{preferring}
use Rattle.run_table.specs.Held.{SoundTo}
use Rattle.run_table.specs.Lists.{Lists, RowWithin, Unknown}
use Rattle.run_table.specs.Loop.{Kept}
use Rattle.run_table.specs.Sets.{Sparse, Stirred}
use Rattle.run_table.specs.Work.{Work, table_of, Rows}
use Rattle.run_merge.specs.declared.Halt.{Halt}
use Rattle.run_merge.specs.Outcome.{merged}

-- two terms to be merged
pub record Mergeable (n t u : ℕ) (w : Work) : Type 0 where
  pub rows : Rows n w
  pub left : t < n
  pub right : u < n

-- a difference to be settled, in two lists of its own and without a column outside the set
pub record Settleable (n set : ℕ) (d : Lists) (w : Work) : Type 0 where
  pub rows : Rows n w
  pub difference : RowWithin set 0 d

-- and an unknown of it to be solved
pub record Solvable (n p set : ℕ) (d : Lists) (w : Work) : Type 0 where
  pub unknown : Unknown p set
  pub settleable : Settleable n set d w

-- what the sets say, where nothing stops
pub record Hints (n : ℕ) (old new : Work) : Type 0 where
  pub sparse : Sparse n new.nums new.sets
  pub stirred : Stirred n old.nums old.dens new.nums new.dens old.sets new.sets

-- what each of them leaves, whatever it answers; and it solves one unknown at most
pub record Left (n : ℕ) (r : Result ℕ Halt) (old new : Work) : Type 0 where
  pub kept : Kept 0 (COLUMNS * n) old.nums old.dens new.nums new.dens
  pub sound : SoundTo (COLUMNS * n) new.nums new.dens
  pub size : length new.sets ≡ length old.sets
  pub hints : OnOk r (Hints n old new)
  pub one : IfOk r (λ more. more ≤ 1)

-- the state that the lists hold, where `solved` unknowns were solved
abbrev pub state_of : (n : ℕ) → Work → (solved : ℕ) → State
state_of n w solved = record { table = table_of n w; solved = solved }

-- The answer and the table are those of the rule, however many unknowns were solved before: the unknown p solved from the difference d,
pub record Solves (n p : ℕ) (d : Row) (r : Result ℕ Halt) (old new : Work) : Type 0 where
  pub answers : (solved : ℕ) → because refused_for (solve p d (state_of n old solved)) ≡ merged r solved (table_of n new)
  pub left : Left n r old new

-- the difference settled,
pub record Settles (n preferred : ℕ) (d : Row) (r : Result ℕ Halt) (old new : Work) : Type 0 where
  pub answers : (solved : ℕ) → settle d (state_of n old solved) (pivot (preferring preferred) TERMS d) ≡ merged r solved (table_of n new)
  pub left : Left n r old new

-- the terms t and u merged.
pub record Merges (n t u preferred : ℕ) (r : Result ℕ Halt) (old new : Work) : Type 0 where
  pub answers : (solved : ℕ) → merge (preferring preferred) t u (state_of n old solved) ≡ merged r solved (table_of n new)
  pub left : Left n r old new

-- what a merge left
abbrev pub left_by : {n t u preferred : ℕ} {r : Result ℕ Halt} {old new : Work} → Merges n t u preferred r old new → Work
left_by {new = new} merges = new
