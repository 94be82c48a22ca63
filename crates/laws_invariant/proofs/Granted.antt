-- What the laws of the run ask for is granted: by a sound problem, and by the ranking of document 01.
-- Main results: `highest_number_strict`, `sound_shaped`, `sound_sides`. Assume nothing.
use lib.ListN.{length}
use Rattle.rules_problem.specs.Problem.{Problem}
use Rattle.laws_valuation.specs.Sound.{Sound}
use Rattle.rules_run.specs.Run.{by_number, highest_number}
use Rattle.laws_invariant.specs.Invariant.{Shaped, SidesBelow, OneToOne, Strict}

-- No two terms have the same number.
pub highest_number_strict : Strict highest_number
unfolding Strict OneToOne highest_number by_number
highest_number_strict terms c k c-below k-below same = same

-- The terms of a sound problem are shaped, and its pairs name them.
pub sound_shaped : (problem : Problem) → Sound problem → Shaped problem.terms
sound_shaped problem sound = record { fits = sound.most; earlier = sound.written.earlier }

pub sound_sides : (problem : Problem) → Sound problem → SidesBelow (length problem.terms) problem.pairs
unfolding SidesBelow
sound_sides problem sound = sound.pairs
