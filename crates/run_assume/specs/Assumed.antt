-- One assumption of the run.
-- Main definition: `assumed`. Assumes nothing.
use Rattle.std.specs.Prelude.{List, ℕ}
use Rattle.answer.specs.declared.Answer.{Answer}
use Rattle.fraction.specs.Made.{Made, ◌>>=◌, because}
use Rattle.rules_problem.specs.declared.Term.{Term}
use Rattle.rules_run.specs.Merge.{State, merge}
use Rattle.rules_run.specs.Close.{close}
use Rattle.rules_run.specs.Run.{by_number, ends}

-- the sides merged, then closed; a stop gets its place
unfoldable pub assumed : List Term → (place left right : ℕ) → State → Made Answer State
assumed terms place left right state = because (ends place) (merge by_number left right state >>= close by_number terms)
