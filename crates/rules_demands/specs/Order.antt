-- Demand 3 on a deciding program, as a statement, for the ranking that it runs with. Proved: of the rules, `rules_ignore_order` (crate
-- `laws_order`), for every ranking that ranks no two columns alike; of two calls of the entry point, from its contract,
-- `calls_agree` (crate `decide_calls`).
-- Main definitions: `SameUpToOrder`, `SameOutcome`, `OrderDoesNotMatter`. Assumes nothing.
use Rattle.std.specs.Prelude.{◌≡◌, ◌⊎◌, ℕ, ◌+◌, ◌≤◌, take}
use mathlib.Core.List.{List, [], ◌∷◌, Memᴰ}
use Rattle.answer.specs.Said.{said}
use Rattle.fraction.specs.Made.{made}
use Rattle.rules_problem.specs.declared.Kind.{Kind}
use Rattle.rules_problem.specs.declared.Kind.TheVariants.{Variable, Constant, Gain, Sum, Difference, Lookup1, Lookup2, Lookup3}
use Rattle.rules_problem.specs.declared.Term.{Term}
use Rattle.rules_problem.specs.Problem.{Pair, Problem, decoded}
use Rattle.rules_run.specs.Row.{PLACES}
use Rattle.rules_run.specs.Run.{Ranking}
use Rattle.rules_outcome.specs.Outcome.{Lent, Long, Outcome}
use Rattle.rules_demands.specs.Demands.{Program, word_of, NotRefused, EqualIsTrue}

unfoldable pub swapped : Pair → Pair
swapped pair = record { left = pair.right; right = pair.left }

-- every pair of the first list stands in the second, in one order of its sides or the other
unfoldable pub Covers : (pairs others : List Pair) → Type 0
Covers pairs others = (pair : Pair) → Memᴰ pair pairs → Memᴰ pair others ⊎ Memᴰ (swapped pair) others

-- Demand 3: "Same terms, goal and set of assumed pairs, whatever order, repeats and sides"
pub record SameUpToOrder (p q : Problem) : Type 0 where
  pub terms : p.terms ≡ q.terms
  pub goal : p.goal ≡ q.goal
  pub there : Covers p.pairs q.pairs
  pub back : Covers q.pairs p.pairs

-- the same numbers at all 4,160 places of each list
pub record SameTable (left left' : Lent) : Type 0 where
  pub numerators : take PLACES left.numerators ≡ take PLACES left'.numerators
  pub denominators : take PLACES left.denominators ≡ take PLACES left'.denominators

-- "the same word, the same finished table number for number, the same count of solved unknowns"
pub record SameOutcome (o o' : Outcome) : Type 0 where
  pub word : word_of o ≡ word_of o'
  pub count : (said o.answer).count ≡ (said o'.answer).count
  pub table : SameTable o.left o'.left

-- 01: "Unknowns are variables and lookups."
unfoldable pub unknown : Kind → ℕ
unknown (Variable symbol) = 1
unknown (Constant value) = 0
unknown (Gain factor input) = 0
unknown (Sum left right) = 0
unknown (Difference left right) = 0
unknown (Lookup1 symbol input) = 1
unknown (Lookup2 symbol first second) = 1
unknown (Lookup3 symbol first second third) = 1

-- "the number of variable and lookup records"
unfoldable pub unknowns : List Term → ℕ
unknowns [] = 0
unknowns (term ∷ terms) = unknown term.kind + unknowns terms

-- Demand 3. Sameness alone would admit a constant program, so the table that is the same is the one of demand 2: what a program
-- shows of this demand includes `EqualIsTrue`, and with it every stand-in named there is ruled out here too.
pub record OrderDoesNotMatter (ranking : Ranking) (program : Program) : Type 0 where
  pub true_table : EqualIsTrue ranking program
  -- "if neither is refused, the same word, the same finished table number for number, the same count"
  pub same : (bytes bytes' : List ℕ) (lent lent' : Lent) (p q : Problem) → Long lent → Long lent'
      → decoded bytes ≡ made p → decoded bytes' ≡ made q → SameUpToOrder p q
      → NotRefused (program bytes lent) → NotRefused (program bytes' lent')
      → SameOutcome (program bytes lent) (program bytes' lent')
  -- "the count is at most the number of variable and lookup records"
  pub bounded : (bytes : List ℕ) (lent : Lent) (p : Problem) → decoded bytes ≡ made p
      → (said (program bytes lent).answer).count ≤ unknowns p.terms
