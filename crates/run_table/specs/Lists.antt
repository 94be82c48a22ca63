-- Two lists of numerators and denominators, taken together, and a row that stands in them.
-- Main definitions: `Lists`, `both`, `lists`, `at_entry`, `row_in`, `RowHeld`, `RowWithin`, `Unknown`. Assume nothing.
use Rattle.std.specs.Prelude.{◌≡◌, true, List, ℕ, ◌+◌, ◌≤◌, ◌<◌, length, ℤ}
use Rattle.std.specs.Borrow.{Bor}
use denote.Triple.Both.{Both}
use Rattle.set_members.specs.Sets.{holds}
use Rattle.rules_run.specs.Row.{Row, TERMS, COLUMNS}
use Rattle.run_table.specs.Held.{row_at, SoundTo}
use Rattle.run_table.specs.Sets.{Within}

pub record Lists : Type 0 where
  pub nums : List ℤ
  pub dens : List ℤ

-- Of two lists that a function writes into, `both nums.old dens.old` is what they hold when it begins, `both nums.new dens.new` when it is over.
abbrev pub both : (nums dens : List ℤ) → Lists
both nums dens = record { nums = nums; dens = dens }

-- what two lists hold that a function only reads, as its requires and as its ensures names them
abbrev pub lists : (nums dens : Bor (List ℤ)) → Lists
lists nums dens = both nums.now dens.now

abbrev pub at_entry : (nums dens : Both (Bor (List ℤ)) (Bor (List ℤ))) → Lists
at_entry nums dens = lists nums.entry dens.entry

-- the row whose column 0 stands at place `base`
abbrev pub row_in : Lists → (base : ℕ) → Row
row_in l base = row_at l.nums l.dens base

-- A row stands at `base`: both lists reach behind its last column, and hold good fractions up to there.
pub record RowHeld (base : ℕ) (l : Lists) : Type 0 where
  pub nums_fit : base + COLUMNS ≤ length l.nums
  pub dens_fit : base + COLUMNS ≤ length l.dens
  pub sound : SoundTo (base + COLUMNS) l.nums l.dens

-- And its columns of terms outside the set hold 0.
pub record RowWithin (set base : ℕ) (l : Lists) : Type 0 where
  pub held : RowHeld base l
  pub within : Within set base l.nums

-- p is the number of a term, and in the set.
pub record Unknown (p set : ℕ) : Type 0 where
  pub term : p < TERMS
  pub inside : holds set p ≡ true
