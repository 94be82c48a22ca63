-- How far the run has come in code, as the rules have it.
-- Main definitions: `ran`, `Prepared`, `ended`, `Places`. Assumes nothing.
use Rattle.run_merge.specs.declared.Halt.{Halt}
use Rattle.run_merge.specs.declared.Halt.TheVariants.{Contradiction, Refused as Halted}
use Rattle.std.specs.Prelude.{◌≡◌, List, ℕ, ◌≤◌, Err, Ok, Result, IfOk}
use Rattle.answer.specs.declared.Answer.{Answer}
use Rattle.answer.specs.declared.Answer.TheVariants.{Contradictory, Refused}
use Rattle.fraction.specs.Made.{Made, made, stopped, because}
use Rattle.rules_problem.specs.Bits.{field}
use Rattle.rules_problem.specs.Problem.{Problem, decoded}
use Rattle.rules_run.specs.Row.{Table}
use Rattle.rules_run.specs.Merge.{State}
use Rattle.rules_run.specs.Run.{ends}
use Rattle.run_table.specs.Notes.{Lookups}
use Rattle.run_table.specs.Work.{Work, Resting}
use Rattle.run_close.specs.Outcome.{closed}
use Rattle.record_reader.specs.Held.{Held}

-- where the lists hold the table now
unfoldable pub ran : Result ℕ Answer → Table → Made Answer State
ran (Ok solved) table = made (record { table = table; solved = solved })
ran (Err answer) table = stopped answer

-- The byte string holds a problem of n terms, whose rows are sound and whose lookups are noted as numbers; the sets serve both.
pub record Prepared (bytes : List ℕ) (n : ℕ) (heads inputs : List ℕ) (w : Work) : Type 0 where
  pub held : Held bytes
  pub terms : n ≡ field bytes 0 8
  pub lookups : (problem : Problem) → decoded bytes ≡ made problem → Lookups problem.terms n heads inputs
  pub resting : Resting n heads inputs w

-- what a stop at an assumption answers
unfoldable pub ended : (place : ℕ) → Halt → Answer
ended place Contradiction = Contradictory place
ended place (Halted number) = Refused number place

-- What `placed` ensures: a stop has its place.
pub record Places (place : ℕ) (closing : Result ℕ Halt) (most : ℕ) (r : Result ℕ Answer) : Type 0 where
  pub answers : (table : Table) → because (ends place) (closed closing table) ≡ ran r table
  pub counted : IfOk r (λ count. count ≤ most)
