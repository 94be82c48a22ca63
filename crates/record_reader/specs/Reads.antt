-- What reading a byte string answers: the header of the problem that it holds, or the refusal that it gets.
-- Main definition: `read_of`. Assumes nothing.
use Rattle.std.specs.Prelude.{List, ℕ, length, Result, Ok, Err}
use Rattle.answer.specs.declared.Refusal.{Refusal}
use Rattle.fraction.specs.Made.{Made, made, stopped}
use Rattle.rules_problem.specs.Problem.{Problem, decoded}
use Rattle.record_reader.specs.declared.Header.{Header}

unfoldable pub header_of : Problem → Header
header_of p = record { n = length p.terms; m = length p.pairs; left = p.goal.left; right = p.goal.right }

unfoldable pub read_as : Made Refusal Problem → Result Header Refusal
read_as (made p) = Ok (header_of p)
read_as (stopped why) = Err why

-- 01, What comes back: refusals 2 to 6 with their places; a sound problem is answered by its header
unfoldable pub read_of : List ℕ → Result Header Refusal
read_of bytes = read_as (decoded bytes)
