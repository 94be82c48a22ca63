-- What steps 1 and 2 of the run ensure; they ask for what the build asks for.
-- Main definition: `Begins`. Assumes nothing.
use Rattle.answer.specs.declared.Answer.{Answer}
use Rattle.std.specs.Prelude.{◌≡◌, List, ℕ, ◌+◌, ◌*◌, ◌≤◌, length, Result, IfOk, OnOk}
use Rattle.fraction.specs.Made.{made}
use Rattle.rules_problem.specs.Problem.{Problem, decoded}
use Rattle.rules_run.specs.Row.{TERMS, COLUMNS}
use Rattle.rules_run.specs.Run.{by_number, begin}
use Rattle.run_table.specs.Notes.{NotesKept}
use Rattle.run_table.specs.Loop.{Kept}
use Rattle.run_table.specs.Work.{table_of}
use Rattle.run_build.specs.Store.{Store}
use Rattle.run_progress.specs.Ran.{ran, Prepared}

-- The run has come as far as the rule: it goes on, with rows, lookups and sets prepared for the assumptions and a count that is not too
-- large, or it has ended. No place behind the rows of the n terms, or behind what is noted of them, has changed.
pub record Begins (bytes : List ℕ) (n : ℕ) (r : Result ℕ Answer) (old new : Store) : Type 0 where
  pub answers : (problem : Problem) → decoded bytes ≡ made problem → begin by_number problem.terms ≡ ran r (table_of n new.work)
  pub kept : Kept 0 (COLUMNS * n) old.work.nums old.work.dens new.work.nums new.work.dens
  pub notes : NotesKept n old.heads old.inputs new.heads new.inputs
  pub size : length new.work.sets ≡ length old.work.sets
  pub prepared : OnOk r (Prepared bytes n new.heads new.inputs new.work)
  pub counted : IfOk r (λ count. count ≤ TERMS + 1)
