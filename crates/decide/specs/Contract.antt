-- What the steps of deciding ask for, and what they ensure. What deciding itself ensures is `Decided`.
-- Main definitions: `Runnable`, `Runs`, `ReadSound`, `Decides`. Assume nothing.
use Rattle.std.specs.Prelude.{◌≡◌, List, ℕ, ◌*◌, Result, Ok, OnOk}
use Rattle.answer.specs.declared.Answer.{Answer}
use Rattle.fraction.specs.Made.{made}
use Rattle.rules_problem.specs.Bits.{field}
use Rattle.rules_problem.specs.Problem.{Problem, decoded}
use Rattle.rules_run.specs.Row.{COLUMNS}
use Rattle.rules_run.specs.Run.{highest_number, run}
use Rattle.rules_outcome.specs.Outcome.{decision, Lent, Long, after}
use Rattle.record_reader.specs.declared.Header.{Header}
use Rattle.record_reader.specs.Reads.{read_of}
use Rattle.run_table.specs.Loop.{Kept}
use Rattle.run_table.specs.Work.{Work, table_of, Rows}
use Rattle.run_progress.specs.Ran.{ran}
use Rattle.run_build.specs.Contract.{Beginnable}
use Rattle.run_build.specs.Store.{Store}
use Rattle.run_finish.specs.Lent.{comes_back}

-- a problem to be run, of n terms and m pairs
pub record Runnable (bytes : List ℕ) (n m : ℕ) (s : Store) : Type 0 where
  pub begins : Beginnable bytes n s
  pub pairs : m ≡ field bytes 8 8

-- The run is that of the rules; places behind the rows stay; where the run went through, its rows can be worked on.
pub record Runs (bytes : List ℕ) (n : ℕ) (r : Result ℕ Answer) (old new : Work) : Type 0 where
  pub answers : (problem : Problem) → decoded bytes ≡ made problem → run highest_number problem ≡ ran r (table_of n new)
  pub kept : Kept 0 (COLUMNS * n) old.nums old.dens new.nums new.dens
  pub rows : OnOk r (Rows n new)

-- a problem that was read, and lists that are long enough
pub record ReadSound (bytes : List ℕ) (header : Header) (lent : Lent) : Type 0 where
  pub sound : read_of bytes ≡ Ok header
  pub long : Long lent

-- What comes back is what the rules say of the decision.
pub record Decides (bytes : List ℕ) (r : Answer) (lent left : Lent) : Type 0 where
  pub outcome : after (decision highest_number bytes) lent ≡ comes_back r left
