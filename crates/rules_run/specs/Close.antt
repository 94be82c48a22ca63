-- Closing a table under congruence.
-- Main definitions: `is_due`, `due`, `close`. Assumes nothing.
use Rattle.std.specs.Prelude.{Bool, true, false, not, ◌&&◌, cond, List, [], ◌∷◌, ℕ, zero, suc, length}
use Rattle.std.proofs.Math.Option.{Option, some, none}
use Rattle.fraction.specs.Made.{Made, made, ◌>>=◌}
use Rattle.rules_problem.specs.declared.Term.{Term}
use Rattle.rules_problem.specs.Lookup.{alike, inputs_of, kind_at}
use Rattle.rules_problem.specs.Problem.{Pair}
use Rattle.rules_run.specs.Row.{Table, same_row}
use Rattle.rules_run.specs.Merge.{State, Stop, merge}

-- lists of terms with equal rows, place by place
unfoldable pub same_rows : Table → List ℕ → List ℕ → Bool
same_rows table [] [] = true
same_rows table [] (u ∷ us) = false
same_rows table (t ∷ ts) [] = false
same_rows table (t ∷ ts) (u ∷ us) = same_row table t u && same_rows table ts us

-- 01, Close: "lookups with the same kind and symbol, inputs with equal rows place by place, and unequal rows of their own"
unfoldable pub is_due : List Term → Table → (i j : ℕ) → Bool
is_due terms table i j = alike (kind_at terms i) (kind_at terms j) && same_rows table (inputs_of (kind_at terms i)) (inputs_of (kind_at terms j)) && not (same_row table i j)

-- the first of `count` numbers from `from` upward for which g gives something
unfoldable pub first : {A : Type 0} → (count from : ℕ) → (ℕ → Option A) → Option A
first zero from g = none
first (suc count) from g = elim (g from) [ none ↦ first count (suc from) g | some a ↦ some a ]

-- "of all pairs i < j (..) take the smallest j, then the smallest i"
unfoldable pub due : List Term → Table → Option Pair
due terms table =
    first (length terms) 0 λ j. first j 0 λ i. cond (is_due terms table i j) (some (record { left = i; right = j })) none

-- "merge; repeat until there is none", for at most `turns` merges
unfoldable pub close_for : (turns : ℕ) → (rank : ℕ → ℕ) → List Term → State → Made Stop State
close_for zero rank terms state = made state
close_for (suc turns) rank terms state =
    elim (due terms state.table) [
      | none ↦ made state
      | some pair ↦ merge rank pair.left pair.right state >>= close_for turns rank terms
    ]

-- each merge there solves one more unknown, so one turn more than there are terms leaves no pair due
unfoldable pub close : (rank : ℕ → ℕ) → List Term → State → Made Stop State
close rank terms state = close_for (suc (length terms)) rank terms state
