-- What the assumptions of a problem force, over all readings: the words of demand 2.
-- Main definitions: `Met`, `Forced`, `IsContradictory`, `IsEntailed`, `IsNotEntailed`. Assumes nothing.
use Rattle.rules_problem.specs.Problem.{Pair, Problem}
use Rattle.rules_reading.specs.Reading.{Reading, Meets, MeetsAll}

-- A reading of the problem's terms that meets its assumptions.
pub record Met (problem : Problem) : Type 0 where
  pub reading : Reading problem.terms
  pub meets : MeetsAll reading problem.pairs

-- Every reading that meets the assumptions gives the two sides equal numbers.
unfoldable pub Forced : Problem → Pair → Type 0
Forced problem pair = (met : Met problem) → Meets met.reading pair

-- Demand 2: "contradictory exactly if no reading meets them"
unfoldable pub IsContradictory : Problem → Type 0
IsContradictory problem = Met problem → ⊥

-- "entailed exactly if the assumptions can be met and meeting them forces the goal's sides equal"
unfoldable pub IsEntailed : Problem → Type 0
IsEntailed problem = Met problem × Forced problem problem.goal

-- "not-entailed otherwise": they can be met, by a reading that tells the goal's sides apart
unfoldable pub IsNotEntailed : Problem → Type 0
IsNotEntailed problem = (met : Met problem) × (Meets met.reading problem.goal → ⊥)
