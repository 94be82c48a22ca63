-- What a problem that is not refused satisfies.
-- Main definition: `Sound`. Assumes nothing.
use mathlib.Core.List.{Memᴰ}
use Rattle.std.specs.Prelude.{◌≤◌, ◌<◌, length}
use Rattle.rules_problem.specs.Problem.{Pair, Problem}
use Rattle.laws_valuation.specs.Written.{Written}

-- 01: "term count n (1 to 64)"; a faulty record and a side that is n or more are refused.
pub record Sound (problem : Problem) : Type 0 where
  pub least : 1 ≤ length problem.terms
  pub most : length problem.terms ≤ 64
  pub written : Written problem.terms
  pub goal : (problem.goal.left < length problem.terms) × (problem.goal.right < length problem.terms)
  pub pairs : (pair : Pair) → Memᴰ pair problem.pairs → (pair.left < length problem.terms) × (pair.right < length problem.terms)
