-- From bounded steps to exact ones: a step of the run that is made is the exact step.
-- Main results: `row_made`, `difference_made`, `form_made`, `folded_made`, `solve_made`. Assume nothing.
use mathlib.Core.Path.{◌≡◌, sym, ap, ◌∙◌}
use mathlib.Core.Bool.{cond}
use mathlib.Core.List.{[]}
use Prim.Native.Nat.{ℕ, suc, ◌≤◌, ◌<◌}
use native.Mathlib.Nat.{zero-add}
use native.Mathlib.Decide.{dec_lt}
use native.Mathlib.Omega.{arith}
use lib.ListN.{length, get_or-eq_default}
use lib.Dec.{eqb}
use Rattle.fraction.specs.Exact.{ℚ, zero_ℚ, ◌+ℚ◌, ◌-ℚ◌, ◌*ℚ◌, ◌÷ℚ◌}
use Rattle.fraction.specs.Limits.{plus, minus, times, over}
use Rattle.answer.specs.declared.Reason.{Reason}
use Rattle.fraction.specs.Made.{Made, made, ◌>>=◌}
use Rattle.fraction.proofs.Bounded.{plus_made, minus_made, times_made, over_made}
use Rattle.fraction.proofs.Making.{bind_made, tab_length, tab_member}
use Rattle.laws_linear.specs.Form.{fold_form}
use Rattle.laws_linear.proofs.Fold.{fold_without}
use Rattle.rules_run.specs.Row.{Row, Table, COLUMNS, column, row_of, cell, row}
use Rattle.rules_run.specs.Merge.{State, difference, solved_column, folded_column, folded, solve}
use Rattle.laws_invariant.specs.Rows.{solved_form}

-- What an operation makes is exact.
pub plus_is : (a b q : ℚ) → plus a b ≡ made q → a +ℚ b ≡ q
plus_is a b q h = sym (plus_made a b q h).0

pub minus_is : (a b q : ℚ) → minus a b ≡ made q → a -ℚ b ≡ q
minus_is a b q h = sym (minus_made a b q h).0

pub times_is : (a b q : ℚ) → times a b ≡ made q → a *ℚ b ≡ q
times_is a b q h = sym (times_made a b q h).0

over_is : (a b q : ℚ) → over a b ≡ made q → a ÷ℚ b ≡ q
over_is a b q h = sym (over_made a b q h).0

-- Each column of a row that is made is what g makes there.
pub row_made : (g : ℕ → Made Reason ℚ) (r : Row) → row g ≡ made r → (c : ℕ) → c < COLUMNS → g c ≡ made (column r c)
unfolding row column
row_made g r h c below = rw zero-add at (tab_member g COLUMNS 0 r h zero_ℚ c below)

-- A difference of rows that is made is the difference in each column.
pub difference_made : (r s d : Row) → difference r s ≡ made d → (c : ℕ) → c < COLUMNS → column d c ≡ column r c -ℚ column s c
unfolding difference
difference_made r s d h c below = sym (minus_is _ _ _ (row_made _ d h c below))

-- A solved row that is made is the solved form.
pub form_made : (p : ℕ) (d form : Row) → row (solved_column p d) ≡ made form → (c : ℕ) → c < COLUMNS → column form c ≡ solved_form p (column d) c
unfolding solved_column solved_form ◌>>=◌
form_made p d form h c below = grind (arith, over_is, row_made _ form h c below)

-- A folded column that is made is the fold.
folded_column_lem : (p : ℕ) (form r : Row) (c : ℕ) (q : ℚ) → folded_column p form r c ≡ made q → q ≡ fold_form p (column form) (column r) c
unfolding folded_column fold_form ◌>>=◌
folded_column_lem p form r c q h = grind (arith, plus_is, times_is)

-- A row past the last term is zero.
pub cell_past : (table : Table) (t c : ℕ) → length table ≤ t → cell table t c ≡ zero_ℚ
unfolding cell row_of column
cell_past table t c past = rw (get_or-eq_default table [])

-- A folded table that is made is the fold of each row.
pub folded_made : (p : ℕ) (form : Row) (table after : Table) → folded p form table ≡ made after → (length after ≡ length table) × ((t c : ℕ) → c < COLUMNS → cell after t c ≡ fold_form p (column form) (cell table t) c)
unfolding folded cell row_of
folded_made p form table after h = (sized, λ t c below. by t c below (dec_lt t (length table)))
  where
    sized : length after ≡ length table
    sized = tab_length (λ t. row (folded_column p form (row_of table t))) (length table) 0 after h

    by : (t c : ℕ) → c < COLUMNS → Dec (t < length table) → cell after t c ≡ fold_form p (column form) (cell table t) c
    by t c below (yes early) = folded_column_lem p form (row_of table t) c _ (row_made _ (row_of after t) (rw zero-add at (tab_member _ (length table) 0 after h [] t early)) c below)
    by t c below (no late) =
        let past : length table ≤ t = omega arith in
        cell_past after t c (rw sized past) ∙ sym (fold_without p (column form) (cell table t) c (cell_past table t p past) ∙ cell_past table t c past)

-- What solving the unknown p from the difference d leaves: each row with the solved form for p, and one more unknown solved.
pub record Solves (p : ℕ) (d : Row) (state after : State) : Type 0 where
  pub sized : length after.table ≡ length state.table
  pub folds : (t c : ℕ) → c < COLUMNS → cell after.table t c ≡ fold_form p (solved_form p (column d)) (cell state.table t) c
  pub counts : after.solved ≡ suc state.solved

pub solve_made : (p : ℕ) (d : Row) (state after : State) → solve p d state ≡ made after → Solves p d state after
unfolding solve fold_form
solve_made p d state after h =
    let (form, first, next) = bind_made (row (solved_column p d)) _ after h in
    let (table, second, last) = bind_made (folded p form state.table) (λ table. made (record { table = table; solved = suc state.solved })) after next in
    by form first table (folded_made p form state.table table second) (cc)
  where
    by : (form : Row) → row (solved_column p d) ≡ made form → (table : Table) → (length table ≡ length state.table) × ((t c : ℕ) → c < COLUMNS → cell table t c ≡ fold_form p (column form) (cell state.table t) c) → after ≡ record { table = table; solved = suc state.solved } → Solves p d state after
    by form first table (sized, folds) same = record {
      sized = ap (λ s. length s.table) same ∙ sized;
      folds = λ t c below. ap (λ s. cell s.table t c) same ∙ folds t c below ∙ ap (λ x. cond (eqb c p) zero_ℚ (cell state.table t c +ℚ cell state.table t p *ℚ x)) (form_made p d form first c below);
      counts = ap (λ s. s.solved) same;
    }
