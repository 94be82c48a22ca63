-- The number of variable and lookup records, counted two ways.
-- Main result: `unknowns_counted`. Assumes nothing.
use mathlib.Core.Path.{◌≡◌, refl}
use mathlib.Core.List.{List, [], ◌∷◌}
use native.Mathlib.Omega.{arith}
use lib.ListN.{length}
use Rattle.rules_problem.specs.declared.Term.{Term}
use Rattle.rules_problem.specs.Lookup.{kind_at}
use Rattle.laws_invariant.specs.Invariant.{is_unknown, count}
use Rattle.rules_demands.specs.Order.{unknown, unknowns}

-- The terms that are unknowns are the variable and lookup records.
pub unknowns_counted : (terms : List Term) → count (length terms) (λ c. is_unknown (kind_at terms c)) ≡ unknowns terms
unfolding count unknowns unknown is_unknown kind_at
unknowns_counted [] = refl
unknowns_counted (term ∷ terms) = grind (arith, unknowns_counted terms)
