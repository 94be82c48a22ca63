-- Merging two terms: the difference of their rows, the unknown it solves, and the fold into every row.
-- Main definitions: `State`, `Stop`, `refused_for`, `pivot`, `solved_column`, `folded_column`, `merge`. Assumes nothing.
use Rattle.std.specs.Prelude.{cond, ℕ, zero, suc, length, eqb, ltb}
use Rattle.std.proofs.Math.Option.{Option, some, none}
use Rattle.fraction.specs.Exact.{ℚ, zero_ℚ, neg_ℚ, eq_ℚ}
use Rattle.fraction.specs.Limits.{plus, minus, times, over}
use Rattle.answer.specs.Refusals.{number_of}
use Rattle.answer.specs.declared.Reason.{Reason}
use Rattle.fraction.specs.Made.{Made, made, stopped, ◌>>=◌, tab, because}
use Rattle.rules_run.specs.Row.{Row, Table, TERMS, constant, column, row_of, row}

-- The table, and the count of unknowns that merges have solved.
pub record State : Type 0 where
  pub table : Table
  pub solved : ℕ

-- Why a merge stops the run: no reading is left, or a number outside the limits with its refusal's number.
pub data Stop : Type 0 where
  contradiction : Stop
  outside : (number : ℕ) → Stop

-- a step of a merge that is refused stops it with the number of its reason
abbrev pub refused_for : (why : Reason) → Stop
refused_for why = outside (number_of why)

-- 01, Merge: "take the difference of the two rows"
unfoldable pub difference : Row → Row → Made Reason Row
difference r s = row (λ c. minus (column r c) (column s c))

-- of two columns the one of higher rank
unfoldable pub higher : (rank : ℕ → ℕ) → (c : ℕ) → Option ℕ → Option ℕ
higher rank c none = some c
higher rank c (some best) = cond (ltb (rank best) (rank c)) (some c) (some best)

-- "the highest-numbered term with a nonzero coefficient is solved": among the first columns, the one of highest rank
unfoldable pub pivot : (rank : ℕ → ℕ) → (columns : ℕ) → Row → Option ℕ
pivot rank zero d = none
pivot rank (suc c) d = cond (eq_ℚ (column d c) zero_ℚ) (pivot rank c d) (higher rank c (pivot rank c d))

-- "every other column is divided by that coefficient and negated"
unfoldable pub solved_column : (p : ℕ) (d : Row) (c : ℕ) → Made Reason ℚ
solved_column p d c = cond (eqb c p) (made zero_ℚ) (over (column d c) (column d p) >>= λ q. made (neg_ℚ q))

-- "in each row with coefficient k there, that coefficient becomes 0, and each other column gains k times the solved column
-- (one product, one sum)"
unfoldable pub folded_column : (p : ℕ) (form r : Row) (c : ℕ) → Made Reason ℚ
folded_column p form r c = cond (eqb c p) (made zero_ℚ) (times (column r p) (column form c) >>= λ gained. plus (column r c) gained)

unfoldable pub folded : (p : ℕ) (form : Row) → Table → Made Reason Table
folded p form table = tab (length table) 0 (λ t. row (folded_column p form (row_of table t)))

-- the state after the unknown p is solved from the difference d, which holds p
unfoldable pub solve : (p : ℕ) (d : Row) → State → Made Reason State
solve p d state =
    row (solved_column p d) >>= λ form.
    folded p form state.table >>= λ table.
    made (record { table = table; solved = suc state.solved })

-- "All zero: nothing. Only the constant nonzero: contradictory, stop. Otherwise the highest-numbered term (..) is solved"
unfoldable pub settle : (d : Row) → State → Option ℕ → Made Stop State
settle d state none = cond (eq_ℚ (column d constant) zero_ℚ) (made state) (stopped contradiction)
settle d state (some p) = because refused_for (solve p d state)

-- "The difference row is tested before it is looked at for contradiction."
unfoldable pub merge : (rank : ℕ → ℕ) → (t u : ℕ) → State → Made Stop State
merge rank t u state =
    because refused_for (difference (row_of state.table t) (row_of state.table u)) >>= λ d.
    settle d state (pivot rank TERMS d)
