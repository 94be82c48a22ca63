-- What the entry point promises: the outcome that the rules lay down, and what it means.
-- Main definition: `Decided`. Assumes nothing.
use Rattle.std.specs.Prelude.{◌≡◌, List, ℕ}
use Rattle.fraction.specs.Made.{made}
use Rattle.rules_problem.specs.Problem.{Problem, decoded}
use Rattle.rules_run.specs.Run.{highest_number}
use Rattle.rules_outcome.specs.Outcome.{Lent, Long, Outcome, outcome}
use Rattle.rules_demands.specs.Demands.{Truthful}

-- For the byte string and the lists lent: what comes back is what the rules lay down (demand 1), and of each sound problem it
-- is true (demand 2).
pub record Decided (bytes : List ℕ) (lent : Lent) (o : Outcome) : Type 0 where
  pub rules : outcome highest_number bytes lent ≡ o
  pub truth : (problem : Problem) → Long lent → decoded bytes ≡ made problem → Truthful highest_number problem o
