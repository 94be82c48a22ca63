-- Equal rows stay equal (F3): where each row is folded, and in a merge.
-- Main results: `folds_equal`, `fold_keeps_equal`, `merge_keeps_equal`. Assume nothing.
use mathlib.Core.Path.{◌≡◌, refl, sym, ◌∙◌, subst}
use mathlib.Core.Bool.{Bool, true, false, cond}
use mathlib.Core.Option.{Option, some, none}
use Prim.Native.Nat.{ℕ, ◌<◌}
use native.Mathlib.Omega.{arith}
use Rattle.fraction.specs.Exact.{zero_ℚ, eq_ℚ}
use Rattle.fraction.specs.Made.{made, stopped, because}
use Rattle.fraction.proofs.Making.{bind_made, because_made, stopped_not_made}
use Rattle.laws_linear.specs.Form.{Form, fold_form}
use Rattle.laws_linear.proofs.Fold.{fold_equal}
use Rattle.rules_run.specs.Row.{Row, Table, TERMS, COLUMNS, constant, column, row_of, cell, same_row}
use Rattle.rules_run.specs.Merge.{State, contradiction, refused_for, difference, pivot, folded, solve, settle, merge}
use Rattle.laws_invariant.specs.Rows.{EqualCells, solved_form}
use Rattle.laws_invariant.proofs.Pivot.{pivot_some}
use Rattle.laws_invariant.proofs.Rows.{same_row_equal}
use Rattle.laws_invariant.proofs.Steps.{folded_made, solve_made}
use Rattle.laws_invariant.proofs.Units.{column_below}

-- Where every row is folded, rows that are equal stay equal.
pub folds_equal : (p : ℕ) (form : Form) (table after : Table) → p < COLUMNS → ((t c : ℕ) → c < COLUMNS → cell after t c ≡ fold_form p form (cell table t) c) → (i j : ℕ) → EqualCells table i j → EqualCells after i j
folds_equal p form table after inside folds i j same c below =
    folds i c below ∙ fold_equal p c form form (cell table i) (cell table j) refl (same p inside) (same c below) ∙ sym (folds j c below)

-- the same of the test of rows
tests_equal : (p : ℕ) (form : Form) (table after : Table) → p < COLUMNS → ((t c : ℕ) → c < COLUMNS → cell after t c ≡ fold_form p form (cell table t) c) → (i j : ℕ) → same_row table i j ≡ true → same_row after i j ≡ true
tests_equal p form table after inside folds i j same =
    (same_row_equal after i j).1 (folds_equal p form table after inside folds i j ((same_row_equal table i j).0 same))

-- A fold that is made leaves equal rows equal.
pub fold_keeps_equal : (p : ℕ) (form : Row) (table after : Table) → p < COLUMNS → folded p form table ≡ made after → (i j : ℕ) → same_row table i j ≡ true → same_row after i j ≡ true
fold_keeps_equal p form table after inside h = tests_equal p (column form) table after inside (folded_made p form table after h).1

module _ (rank : ℕ → ℕ) (state after : State) where
  settle_keeps_equal : (d : Row) (o : Option ℕ) → pivot rank TERMS d ≡ o → settle d state o ≡ made after → (i j : ℕ) → same_row state.table i j ≡ true → same_row after.table i j ≡ true
  unfolding settle
  settle_keeps_equal d (some p) found h i j same =
      let solves = solve_made p d state after (because_made refused_for (solve p d state) after h) in
      let inside : p < COLUMNS = column_below (omega (arith, (pivot_some rank d TERMS p found).below)) in
      tests_equal p (solved_form p (column d)) state.table after.table inside solves.folds i j same
  settle_keeps_equal d none empty h i j same = by (eq_ℚ (column d constant) zero_ℚ) h
    where
      by : (b : Bool) → cond b (made state) (stopped contradiction) ≡ made after → same_row after.table i j ≡ true
      by true is = let stays : state ≡ after = cc in subst (λ s. same_row s.table i j ≡ true) stays same
      by false stops = absurd (stopped_not_made stops)

  -- A merge that is made leaves equal rows equal.
  pub merge_keeps_equal : (t u : ℕ) → merge rank t u state ≡ made after → (i j : ℕ) → same_row state.table i j ≡ true → same_row after.table i j ≡ true
  unfolding merge
  merge_keeps_equal t u h =
      let (d, first, second) = bind_made (because refused_for (difference (row_of state.table t) (row_of state.table u))) (λ d. settle d state (pivot rank TERMS d)) after h in
      settle_keeps_equal d (pivot rank TERMS d) refl second
