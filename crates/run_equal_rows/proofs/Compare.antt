-- Two rows compared, column by column, by what each call answers.
-- Main results: `both_good`, `column_tested`; `Comparing`, `constant_differs`, `comparing_starts`, `column_differs`, `comparing_on`, `comparing_ends`;
-- `itself_same`, `right_differs`, `left_differs`, `rows_within`, `rows_tested`, `left_row_within`, `right_row_within`, `terms_within`. Assume nothing.
use mathlib.Core.Path.{◌≡◌, sym, ap, ap₂, subst, ◌∙◌}
use mathlib.Core.Bool.{Bool, true, false, not, ◌&&◌, ◌||◌}
use mathlib.Core.List.{List}
use Prim.Native.Nat.{ℕ, ◌+◌, ◌-◌, ◌*◌, ◌<◌, ◌≤◌}
use native.Mathlib.Omega.{arith}
use borrow.Author.Tests.{not-true, not-false}
use lib.IntN.{ℤ, pos}
use lib.ListN.{get_or}
use Rattle.set_members.specs.Sets.{holds}
use Rattle.set_extremes.specs.Extremes.{Last}
use Rattle.fraction.specs.declared.Fraction.{Fraction}
use Rattle.fraction.specs.Exact.{eq_ℚ}
use Rattle.fraction_reduce.specs.Values.{value, Good}
use Rattle.rules_run.specs.Row.{TERMS, COLUMNS, same_to, same_row}
use Rattle.run_table.specs.Held.{held_at, row_at, table_at}
use Rattle.run_table.specs.Sets.{Within, columns_of}
use Rattle.run_table.proofs.Columns.{column_held, sound_fewer}
use Rattle.run_table.proofs.Sparse.{within_left, within_right}
use Rattle.run_equal_rows.specs.Contract.{BothGood, RowsStand, RowsWithin, TermsWithin, Comparable, same_column, same_at}
use Rattle.run_equal_rows.proofs.Equal.{same_step, same_skips, same_outside, row_itself, same_rows, differing_rows}

-- The fractions a and b that stand in column c of two rows.
module _ {left right c : ℕ} {nums dens : List ℤ} {a b : Fraction} (asked : RowsStand left right nums dens × (c < COLUMNS))
    (first : a ≡ held_at nums dens (left + c)) (second : b ≡ held_at nums dens (right + c)) where
  pub both_good : BothGood a b
  both_good =
      let (rows, below) = asked in
      record { left = subst Good (sym first) (rows.left_sound.good (left + c) (omega arith)); right = subst Good (sym second) (rows.right_sound.good (right + c) (omega arith)) }

  -- They are equal exactly if the rows hold the same there.
  pub column_tested : {r : Bool} → r ≡ eq_ℚ (value a) (value b) → r ≡ same_column nums dens left right c
  column_tested answer =
      let below = asked.1 in
      answer ∙ ap₂ eq_ℚ (ap value first ∙ sym (column_held nums dens left c below)) (ap value second ∙ sym (column_held nums dens right c below))

-- In the loop: the columns from c up hold the same in both rows.
pub record Comparing (nums dens : List ℤ) (left right c : ℕ) : Type 0 where
  pub few : c ≤ TERMS
  pub rest : same_at nums dens left right COLUMNS ≡ same_at nums dens left right c

module _ {left right set : ℕ} {nums dens : List ℤ} (asked : RowsWithin left right set nums dens) where
  -- Outside the set nothing is to be tested.
  passed : (from c : ℕ) → c ≤ TERMS → Last set c from → same_at nums dens left right c ≡ same_at nums dens left right from
  passed from c few last =
      same_skips from c (row_at nums dens left) (row_at nums dens right) last.backward λ k low high.
      same_outside nums dens k (omega arith) asked.rows.left_sound asked.rows.right_sound asked.left_within asked.right_within (last.none_between k low high)

  -- The constant is tested first,
  module _ (r : Bool) (answer : r ≡ same_column nums dens left right TERMS) where
    first_step : same_at nums dens left right COLUMNS ≡ r && same_at nums dens left right TERMS
    first_step = same_step COLUMNS (row_at nums dens left) (row_at nums dens right) (omega arith) answer

    pub constant_differs : not r ≡ true → false ≡ same_at nums dens left right COLUMNS
    constant_differs other = sym (rw (not-true r other) at first_step)

    pub comparing_starts : not r ≡ false → {from : ℕ} → Last set TERMS from → Comparing nums dens left right from
    comparing_starts same {from} last = record { few = last.backward; rest = rw (not-false r same) at first_step ∙ passed from TERMS (omega arith) last }

  -- then column after column.
  module _ {c : ℕ} (comparing : Comparing nums dens left right c) (some_left : 0 < c) (r : Bool) (answer : r ≡ same_column nums dens left right (c - 1)) where
    next_step : same_at nums dens left right COLUMNS ≡ r && same_at nums dens left right (c - 1)
    next_step = comparing.rest ∙ same_step c (row_at nums dens left) (row_at nums dens right) some_left answer

    pub column_differs : not r ≡ true → false ≡ same_at nums dens left right COLUMNS
    column_differs other = sym (rw (not-true r other) at next_step)

    pub comparing_on : not r ≡ false → {from : ℕ} → Last set (c - 1) from → Comparing nums dens left right from
    comparing_on same {from} last =
        record { few = omega (arith, last.backward, comparing.few); rest = rw (not-false r same) at next_step ∙ passed from (c - 1) (omega (arith, comparing.few)) last }

-- No column is left: the rows are equal.
pub comparing_ends : {left right c : ℕ} {nums dens : List ℤ} → Comparing nums dens left right c → c ≤ 0 → true ≡ same_at nums dens left right COLUMNS
unfolding same_to
comparing_ends {c = c} comparing over =
    let none : c ≡ 0 = omega arith in
    sym (rw none at comparing.rest)

module _ {n t u set : ℕ} {nums dens : List ℤ} (asked : TermsWithin n t u set nums dens) where
  -- A term has the row of itself.
  pub itself_same : t ≡ u → true ≡ same_row (table_at n nums dens) t u
  itself_same same = sym (rw same (row_itself _ _))

  -- Rows with different numerators in the column of one of the terms are not equal.
  pub right_differs : {r : Bool} → r ≡ true → (get_or nums (COLUMNS * t + u) (pos 0) ≡ get_or nums (COLUMNS * u + u) (pos 0) → r ≡ false) → false ≡ same_row (table_at n nums dens) t u
  right_differs found equal = sym (differing_rows n nums dens t u u asked.left asked.right (omega arith) asked.sound found equal)

  pub left_differs : {r : Bool} → r ≡ true → (get_or nums (COLUMNS * t + t) (pos 0) ≡ get_or nums (COLUMNS * u + t) (pos 0) → r ≡ false) → false ≡ same_row (table_at n nums dens) t u
  left_differs found equal = sym (differing_rows n nums dens t u t asked.left asked.right (omega arith) asked.sound found equal)

  -- Otherwise the rows are compared at their places.
  pub rows_within : RowsWithin (COLUMNS * t) (COLUMNS * u) set nums dens
  rows_within =
      record {
        rows = record {
          left_fits = omega arith;
          right_fits = omega arith;
          nums_fit = asked.nums_fit;
          dens_fit = asked.dens_fit;
          left_sound = sound_fewer _ (omega arith) asked.sound;
          right_sound = sound_fewer _ (omega arith) asked.sound;
        };
        left_within = asked.left_within;
        right_within = asked.right_within;
      }

  pub rows_tested : {r : Bool} → r ≡ same_at nums dens (COLUMNS * t) (COLUMNS * u) COLUMNS → r ≡ same_row (table_at n nums dens) t u
  rows_tested answer = answer ∙ sym (same_rows n nums dens t u asked.left asked.right)

-- Both rows are within the union of their sets.
module _ {n t u set : ℕ} {nums dens : List ℤ} {sets : List ℕ} (asked : Comparable n t u (record { nums = nums; dens = dens; sets = sets }))
    (union : (k : ℕ) → holds set k ≡ (holds (get_or sets t 0) k || holds (get_or sets u 0) k)) where
  pub left_row_within : Within set (COLUMNS * t) nums
  unfolding columns_of
  left_row_within = within_left (columns_of sets t) (columns_of sets u) union (asked.rows.sparse.within t asked.left)

  pub right_row_within : Within set (COLUMNS * u) nums
  unfolding columns_of
  right_row_within = within_right (columns_of sets t) (columns_of sets u) union (asked.rows.sparse.within u asked.right)

-- Rows within a set can be compared by it.
pub terms_within : {n t u i j set : ℕ} {nums dens : List ℤ} {sets : List ℕ} → Comparable n t u (record { nums = nums; dens = dens; sets = sets }) → i < n → j < n → Within set (COLUMNS * i) nums → Within set (COLUMNS * j) nums → TermsWithin n i j set nums dens
terms_within asked left right left_within right_within =
    let rows = asked.rows in
    record {
      few = rows.few;
      left = left;
      right = right;
      nums_fit = rows.nums_fit;
      dens_fit = rows.dens_fit;
      sound = rows.sound;
      left_within = left_within;
      right_within = right_within;
    }
