-- What closing asks for, and what it ensures.
-- Main definitions: `MOST`, `Closable`, `Closes`. Assume nothing.
use Rattle.run_merge.specs.declared.Halt.{Halt}
use Rattle.std.specs.Prelude.{◌≡◌, List, ℕ, ◌+◌, ◌*◌, ◌≤◌, length, Result, IfOk, OnOk}
use Rattle.rules_problem.specs.declared.Term.{Term}
use Rattle.rules_run.specs.Row.{COLUMNS}
use Rattle.rules_run.specs.Close.{close}
use Rattle.rules_run.specs.Run.{by_number}
use Rattle.run_table.specs.Notes.{Lookups}
use Rattle.run_table.specs.Held.{SoundTo}
use Rattle.run_table.specs.Loop.{Kept}
use Rattle.run_table.specs.Work.{Work, table_of, Resting}
use Rattle.run_merge.specs.Contract.{state_of}
use Rattle.run_close.specs.Outcome.{closed}

-- A count of solved unknowns that closing takes: far above what a run comes to, and far from wrapping.
abbrev pub MOST : ℕ
MOST = 8192

-- The sets serve, and the count is no greater.
pub record Closable (n solved : ℕ) (heads inputs : List ℕ) (w : Work) : Type 0 where
  pub resting : Resting n heads inputs w
  pub few_solved : solved ≤ MOST

-- The answer and the table are the rule's, of whatever terms the notes are. Only the rows of the n terms have changed, and they are
-- sound; at most one unknown more is solved in each of n + 1 turns; and where closing goes on, the sets serve again.
pub record Closes (n solved : ℕ) (heads inputs : List ℕ) (r : Result ℕ Halt) (old new : Work) : Type 0 where
  pub answers : (terms : List Term) → Lookups terms n heads inputs
      → close by_number terms (state_of n old solved) ≡ closed r (table_of n new)
  pub kept : Kept 0 (COLUMNS * n) old.nums old.dens new.nums new.dens
  pub sound : SoundTo (COLUMNS * n) new.nums new.dens
  pub size : length new.sets ≡ length old.sets
  pub counted : IfOk r (λ count. count ≤ solved + n + 1)
  pub resting : OnOk r (Resting n heads inputs new)
