-- A problem that a byte string holds.
-- Main definition: `Held`. Assumes nothing.
use Rattle.std.specs.Prelude.{◌≡◌, List, ℕ}
use Rattle.fraction.specs.Made.{made}
use Rattle.rules_problem.specs.Problem.{Problem, decoded}

-- the byte string holds a problem
pub record Held (bytes : List ℕ) : Type 0 where
  pub problem : Problem
  pub same : decoded bytes ≡ made problem
