-- Cases A, B, C, D, H, I and J of document 01 as problems.
-- Main definitions: `problem_a`, `problem_b`, `problem_c`, `problem_d`, `problem_h`, `problem_i`, `problem_j2`. Assumes nothing.
use Rattle.std.specs.Prelude.{List, [], ◌∷◌, map, ℕ, pos, negsuc}
use Rattle.rules_problem.specs.declared.Kind.{Kind}
use Rattle.rules_problem.specs.declared.Kind.TheVariants.{Variable, Constant, Gain, Sum, Difference, Lookup1}
use Rattle.rules_problem.specs.Problem.{Pair, Problem}

abbrev pub pair : (left right : ℕ) → Pair
pair left right = record { left = left; right = right }

abbrev pub problem : List Kind → (goal : Pair) → List Pair → Problem
problem kinds goal pairs = record { terms = map (λ kind. record { kind = kind }) kinds; goal = goal; pairs = pairs }

-- x, -1/8 x, f(-1/8 x), 3/2; f(-1/8 x) = 3/2, goal -1/8 x = f(-1/8 x)
unfoldable pub problem_a : Problem
problem_a =
    problem
    (Variable 0
    ∷ Gain (record { mantissa = negsuc 0; shift = 3 }) 0
    ∷ Lookup1 7 1
    ∷ Constant (record { mantissa = pos 3; shift = 1 })
    ∷ [])
    (pair 1 2)
    (pair 2 3 ∷ [])

-- x, f(x) to f⁵(x)
unfoldable pub five_times : List Kind
five_times = Variable 0 ∷ Lookup1 7 0 ∷ Lookup1 7 1 ∷ Lookup1 7 2 ∷ Lookup1 7 3 ∷ Lookup1 7 4 ∷ []

-- f³(x) = f(x), goal f⁵(x) = f(x)
unfoldable pub problem_b : Problem
unfolding five_times
problem_b = problem five_times (pair 5 1) (pair 3 1 ∷ [])

-- f⁵(x) = x, f³(x) = x, goal f(x) = x
unfoldable pub problem_c : Problem
unfolding five_times
problem_c = problem five_times (pair 1 0) (pair 5 0 ∷ pair 3 0 ∷ [])

-- x, y, 1, x-1, f(x-1), f(x-1)-1, x+1, f(y), f(y)+1, y-1, y+1; f(x-1)-1 = x+1, f(y)+1 = y-1, y+1 = x
unfoldable pub problem_d : Problem
problem_d =
    problem
    (Variable 0
    ∷ Variable 0
    ∷ Constant (record { mantissa = pos 1; shift = 0 })
    ∷ Difference 0 2
    ∷ Lookup1 7 3
    ∷ Difference 4 2
    ∷ Sum 0 2
    ∷ Lookup1 7 1
    ∷ Sum 7 2
    ∷ Difference 1 2
    ∷ Sum 1 2
    ∷ [])
    (pair 0 0)
    (pair 5 6 ∷ pair 8 9 ∷ pair 10 0 ∷ [])

-- x, y, f(x) to f³(x), f(y) to f⁴(y); x = y, f³(x) = f(x), goal f⁴(y) = f(x)
unfoldable pub problem_h : Problem
problem_h =
    problem
    (Variable 0
    ∷ Variable 0
    ∷ Lookup1 7 0
    ∷ Lookup1 7 2
    ∷ Lookup1 7 3
    ∷ Lookup1 7 1
    ∷ Lookup1 7 5
    ∷ Lookup1 7 6
    ∷ Lookup1 7 7
    ∷ [])
    (pair 8 2)
    (pair 0 1 ∷ pair 4 2 ∷ [])

-- x, and f(x) twice; goal between the two
unfoldable pub problem_i : Problem
problem_i = problem (Variable 0 ∷ Lookup1 7 0 ∷ Lookup1 7 0 ∷ []) (pair 1 2) []

-- t, gain -1 shift 3 of it, gain 1 shift 3 of it; goal between the two gains
unfoldable pub problem_j2 : Problem
problem_j2 =
    problem
    (Variable 0
    ∷ Gain (record { mantissa = negsuc 0; shift = 3 }) 0
    ∷ Gain (record { mantissa = pos 1; shift = 3 }) 0
    ∷ [])
    (pair 1 2)
    []
