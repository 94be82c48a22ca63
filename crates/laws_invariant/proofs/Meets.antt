-- A merge makes the rows of its two terms equal (F4).
-- Main results: `Differs`, `rows_differ`, `solve_meets`, `constant_only`, `merge_meets`. Assume nothing.
use mathlib.Core.Path.{◌≡◌, refl, sym, ap₂, ◌∙◌, subst}
use mathlib.Core.Bool.{Bool, true, false, cond}
use mathlib.Core.Option.{Option, some, none}
use Prim.Native.Nat.{ℕ, ◌<◌}
use native.Mathlib.Omega.{arith}
use Rattle.fraction.specs.Exact.{zero_ℚ, eq_ℚ, ◌-ℚ◌}
use Rattle.fraction.specs.Made.{made, stopped, because}
use Rattle.fraction.proofs.Equality.{eq_ℚ_yes}
use Rattle.fraction.proofs.Field.{difference_zero}
use Rattle.fraction.proofs.Making.{bind_made, because_made, stopped_not_made}
use Rattle.laws_linear.specs.Form.{fold_form}
use Rattle.laws_linear.proofs.Fold.{fold_equal, fold_minus}
use Rattle.laws_linear.proofs.Upto.{last_or_before}
use Rattle.rules_run.specs.Row.{Row, Table, TERMS, COLUMNS, constant, column, row_of, cell, same_row}
use Rattle.rules_run.specs.Merge.{State, contradiction, refused_for, difference, pivot, solve, settle, merge}
use Rattle.laws_invariant.specs.Rows.{EqualCells, solved_form}
use Rattle.laws_invariant.proofs.Pivot.{Pivot, pivot_some, pivot_none}
use Rattle.laws_invariant.proofs.Rows.{same_row_equal}
use Rattle.laws_invariant.proofs.SolvedForm.{solved_cancels}
use Rattle.laws_invariant.proofs.Steps.{Solves, difference_made, solve_made}
use Rattle.laws_invariant.proofs.Units.{column_below}

-- The row d is the difference of rows t and u.
pub record Differs (table : Table) (t u : ℕ) (d : Row) : Type 0 where
  pub each : (c : ℕ) → c < COLUMNS → column d c ≡ cell table t c -ℚ cell table u c

pub rows_differ : {table : Table} {t u : ℕ} {d : Row} → difference (row_of table t) (row_of table u) ≡ made d → Differs table t u d
unfolding cell
rows_differ {table} {t} {u} {d} h = record { each = difference_made (row_of table t) (row_of table u) d h }

-- An unknown is solved: the difference cancels.
pub solve_meets : {rank : ℕ → ℕ} {state after : State} {t u p : ℕ} {d : Row} → Differs state.table t u d → Pivot rank TERMS d p → Solves p d state after → EqualCells after.table t u
solve_meets {state = state} {t = t} {u} {p} {d} differs chosen solves c inside =
    let form = solved_form p (column d) in
    let p_column : p < COLUMNS = column_below (omega (arith, chosen.below)) in
    let cancels : fold_form p form (λ k. cell state.table t k -ℚ cell state.table u k) c ≡ zero_ℚ =
    fold_equal p c form form _ (column d) refl (sym (differs.each p p_column)) (sym (differs.each c inside)) ∙ solved_cancels p (column d) chosen.nonzero c in
    difference_zero _ _ (ap₂ ◌-ℚ◌ (solves.folds t c inside) (solves.folds u c inside) ∙ sym (fold_minus p form _ _ c) ∙ cancels)

-- Nothing is to be solved: the rows differ in the constant at most, and not there.
pub constant_only : (rank : ℕ → ℕ) {table : Table} {t u : ℕ} (d : Row) → Differs table t u d → pivot rank TERMS d ≡ none → column d constant ≡ zero_ℚ → EqualCells table t u
constant_only rank d differs empty zero c inside =
    difference_zero _ _ (sym (differs.each c inside) ∙ last_or_before TERMS zero (pivot_none rank d TERMS empty) c inside)

module _ (rank : ℕ → ℕ) (state after : State) (t u : ℕ) where
  settle_meets : (d : Row) → Differs state.table t u d → (o : Option ℕ) → pivot rank TERMS d ≡ o → settle d state o ≡ made after → EqualCells after.table t u
  unfolding settle
  settle_meets d differs (some p) found h =
      solve_meets differs (pivot_some rank d TERMS p found) (solve_made p d state after (because_made refused_for (solve p d state) after h))
  settle_meets d differs none empty h = by (eq_ℚ (column d constant) zero_ℚ) refl h
    where
      by : (b : Bool) → eq_ℚ (column d constant) zero_ℚ ≡ b → cond b (made state) (stopped contradiction) ≡ made after → EqualCells after.table t u
      by true zero is = let stays : state ≡ after = cc in subst (λ s. EqualCells s.table t u) stays (constant_only rank d differs empty (eq_ℚ_yes _ _ zero))
      by false other stops = absurd (stopped_not_made stops)

  -- A merge that is made leaves the rows of both terms equal.
  pub merge_meets : merge rank t u state ≡ made after → same_row after.table t u ≡ true
  unfolding merge
  merge_meets h =
      let (d, first, second) = bind_made (because refused_for (difference (row_of state.table t) (row_of state.table u))) (λ d. settle d state (pivot rank TERMS d)) after h in
      (same_row_equal after.table t u).1 (settle_meets d (rows_differ (because_made refused_for _ d first)) (pivot rank TERMS d) refl second)
