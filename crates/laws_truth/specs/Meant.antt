-- What the words of an answer say of a problem.
-- Main definition: `Meant`. Assumes nothing.
use Rattle.answer.specs.Said.{Word, entailed, not_entailed, contradictory, refused}
use Rattle.rules_problem.specs.Problem.{Problem}
use Rattle.rules_reading.specs.Forced.{IsContradictory, IsEntailed, IsNotEntailed}

-- Demand 2's words; a refusal says nothing true of a problem.
unfoldable pub Meant : Problem → Word → Type 0
Meant problem entailed = IsEntailed problem
Meant problem not_entailed = IsNotEntailed problem
Meant problem contradictory = IsContradictory problem
Meant problem (refused number) = ⊥
