-- The run on small problems, given by their terms: what the errors that document 01 shuts out would change.
-- Main results: `closing_comes_first`, `lookups_compare_by_row`, `lookups_merge_by_folded_rows`, `sides_do_not_choose`. Assume nothing.
use mathlib.Core.Path.{◌≡◌, refl}
use mathlib.Core.List.{List, [], ◌∷◌, map}
use Prim.Native.Nat.{ℕ}
use lib.IntN.{ℤ, pos}
use Rattle.answer.specs.declared.Answer.{Answer}
use Rattle.answer.specs.declared.Answer.TheVariants.{Entailed, Contradictory}
use Rattle.fraction.specs.Made.{made, stopped}
use Rattle.rules_problem.specs.declared.Kind.{Kind}
use Rattle.rules_problem.specs.declared.Kind.TheVariants.{Variable, Constant, Difference, Lookup1}
use Rattle.rules_problem.specs.Problem.{Pair, Problem}
use Rattle.rules_run.specs.Run.{judged}
use Rattle.rules_run.specs.Computed.{computed_run}

-- a problem with goal l = r
problem : (l r : ℕ) → List Kind → List Pair → Problem
problem l r kinds pairs =
    record { terms = map (λ kind. record { kind = kind }) kinds; goal = record { left = l; right = r }; pairs = pairs }

equal : (l r : ℕ) → Pair
equal l r = record { left = l; right = r }

-- the answer, and the finished table as numerators over denominators
answer : Problem → Answer
unfolding computed_run
answer p = elim (computed_run p) [ made state ↦ judged p.goal state | stopped a ↦ a ]

numbers : Problem → List (List (ℤ × ℕ))
unfolding computed_run
numbers p = elim (computed_run p) [ made state ↦ map (map (λ q. (q.num, q.den))) state.table | stopped a ↦ [] ]

x : Kind
x = Variable 0

f : ℕ → Kind
f input = Lookup1 7 input

-- Case I: two records of f(x) have one row before any assumption.
closing_comes_first : answer (problem 1 2 (x ∷ f 0 ∷ f 0 ∷ []) []) ≡ Entailed 1
unfolding answer problem x f equal
closing_comes_first = refl

-- From x = y follows f(x) = f(y), although the inputs are two terms.
lookups_compare_by_row : answer (problem 2 3 (x ∷ x ∷ f 0 ∷ f 1 ∷ []) (equal 0 1 ∷ [])) ≡ Entailed 2
unfolding answer problem x f equal
lookups_compare_by_row = refl

-- Case E: f(v) = v, f(u) = u - 1, u = v cannot all be met.
lookups_merge_by_folded_rows : answer (problem 0 0 (x ∷ x ∷ f 0 ∷ f 1 ∷ Constant (record { mantissa = pos 1; shift = 0 }) ∷ Difference 1 4 ∷ []) (equal 2 0 ∷ equal 3 5 ∷ equal 1 0 ∷ [])) ≡ Contradictory 3
unfolding answer problem x f equal
lookups_merge_by_folded_rows = refl

-- x = y and y = x end in the same table, number for number.
sides_do_not_choose : numbers (problem 0 1 (x ∷ x ∷ []) (equal 0 1 ∷ [])) ≡ numbers (problem 0 1 (x ∷ x ∷ []) (equal 1 0 ∷ []))
unfolding numbers problem x f equal
sides_do_not_choose = refl
