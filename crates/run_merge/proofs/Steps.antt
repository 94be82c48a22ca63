-- A merge, step by step: what each step asks of the one before it, what its answer makes of the rule's, and what it leaves.
-- Main results: `solve_folds`, `form_refused`, `fold_refused`, `fold_made`; `settle_solves`, `settles_nothing`, `settles_contradiction`,
-- `settles_solved`; `zeros_within`, `merge_subtracts`, `merge_settles`, `difference_refused`, `difference_made`. Assume nothing.
use Rattle.answer.specs.Refusals.{number_of}
use Rattle.answer.specs.declared.Reason.{Reason}
use Rattle.std.specs.Prelude.{Err, None, Ok, Option, Result, Some, IsErrAnd}
use Rattle.std.proofs.Common.{add-one}
use Rattle.std.proofs.lemmas.Result.{err_from_is_err_and}
use mathlib.Core.Path.{◌≡◌, refl, sym, ap, ap₂, ◌∙◌, subst}
use mathlib.Core.Bool.{◌||◌}
use mathlib.Core.List.{List}
use mathlib.Core.Option.{none}
use Prim.Native.Nat.{ℕ, ◌*◌}
use native.Mathlib.Nat.{add-zero, zero-add}
use native.Mathlib.Omega.{arith}
use lib.IntN.{ℤ, pos}
use lib.ListN.{replicate, get_or-replicate}
use mir.Syntax.{w32}
use mir.Val.{of_z}
use Rattle.set_members.specs.Sets.{holds}
use Rattle.fraction.specs.declared.Fraction.{Fraction}
use Rattle.fraction.specs.Exact.{zero_ℚ, eq_ℚ}
use Rattle.fraction.specs.Limits.{minus}
use Rattle.fraction.specs.Made.{◌>>=◌, because}
use Rattle.fraction_reduce.specs.Values.{value, Good}
use Rattle.fraction_reduce.proofs.Tests.{zero_tested, other_tested}
use Rattle.rules_run.specs.Row.{TERMS, COLUMNS, constant, column, row, row_of}
use Rattle.rules_run.specs.Merge.{difference, pivot, solve, settle, merge}
use Rattle.rules_run.specs.Run.{by_number}
use Rattle.run_table.specs.Step.{Step}
use Rattle.run_table.specs.Held.{held_at, row_at}
use Rattle.run_table.specs.Lists.{Lists, both, RowWithin}
use Rattle.run_table.specs.Sets.{columns_of}
use Rattle.run_table.specs.Work.{Work, table_of, Rows}
use Rattle.run_table.proofs.Columns.{column_first, row_held_lem, kept_itself, sound_zeros}
use Rattle.run_table.proofs.Lists.{rows_held, first_good}
use Rattle.run_table.proofs.Sparse.{within_left, within_right, stirred_itself}
use Rattle.run_table.proofs.Turns.{stepped_done, stepped_refused}
use Rattle.run_difference.specs.Contract.{Subtractable, apart, Subtracts}
use Rattle.run_pivot.specs.Contract.{preferring, pivoted, Pivots}
use Rattle.run_pivot.proofs.Chosen.{preferring_none}
use Rattle.run_solve.specs.Contract.{Formable, Forms}
use Rattle.run_fold.specs.Contract.{Foldable, Folds}
use Rattle.run_merge.specs.declared.Halt.{Halt}
use Rattle.run_merge.specs.declared.Halt.TheVariants.{Contradiction, Refused}
use Rattle.run_merge.specs.Outcome.{merged}
use Rattle.run_merge.specs.Contract.{Mergeable, Settleable, Solvable, Left, state_of, Solves, Settles, Merges}

-- Lists that nothing changes, where nothing is solved or the merge stops.
left_itself : {n : ℕ} {w : Work} → Rows n w → Left n (Ok 0) w w
left_itself {n} {w} rows = record {
  kept = kept_itself 0 (COLUMNS * n) w.nums w.dens;
  sound = rows.sound;
  size = refl;
  hints = record { sparse = rows.sparse; stirred = stirred_itself n w.nums w.dens w.sets };
  one = omega arith;
}

stopped_itself : {n : ℕ} {w : Work} → Rows n w → (halt : Halt) → Left n (Err halt) w w
stopped_itself {n} {w} rows halt =
    record { kept = kept_itself 0 (COLUMNS * n) w.nums w.dens; sound = rows.sound; size = refl; hints = tt; one = tt }

-- The unknown is solved: the form is made in the difference's place, and folded into every row.
module _ {n p set : ℕ} {nums dens : List ℤ} {w : Work} (asked : Solvable n p set (both nums dens) w) where
  pub solve_forms : Formable p set (both nums dens)
  solve_forms = record { unknown = asked.unknown; row = asked.settleable.difference }

  module _ {nums' dens' : List ℤ} {step : Step} (forms : Forms p set step (both nums dens) (both nums' dens')) where
    -- The form can be folded.
    pub solve_folds : Foldable n p set (both nums' dens') w
    solve_folds =
        let held = asked.settleable.difference.held in
        let kept = forms.row_made.kept in
        record {
          rows = asked.settleable.rows;
          unknown = asked.unknown;
          form_row =
              record {
                held =
                    record {
                      nums_fit = omega (arith, held.nums_fit, kept.nums_length);
                      dens_fit = omega (arith, held.dens_fit, kept.dens_length);
                      sound = forms.row_made.sound;
                    };
                within = forms.within;
              };
        }

  -- The form is refused; or it is made, and the fold is refused; or both are made.
  pub form_refused : {why : Reason} {nums' dens' : List ℤ} {r : Result ℕ Halt} → Forms p set (Err why) (both nums dens) (both nums' dens')
      → IsErrAnd r (λ halt. halt ≡ Refused (number_of why)) → Solves n p (row_at nums dens 0) r w w
  unfolding solve because merged ◌>>=◌
  form_refused {why} {nums'} {dens'} {r} forms stops =
      let form = stepped_refused (row_at nums' dens' 0) forms.row_made.ends refl in
      let q = err_from_is_err_and r stops in
      rw (q.1, q.2) (record { answers = λ solved. rw form; left = stopped_itself asked.settleable.rows (Refused (number_of why)) })

  module _ {nums' dens' : List ℤ} {new : Work} (forms : Forms p set (Ok tt) (both nums dens) (both nums' dens')) where
    pub fold_refused : {why : Reason} {r : Result ℕ Halt} → Folds n p (both nums' dens') (Err why) w new → IsErrAnd r (λ halt. halt ≡ Refused (number_of why))
        → Solves n p (row_at nums dens 0) r w new
    unfolding solve because merged ◌>>=◌
    fold_refused {why} {r} folds stops =
        let form = stepped_done forms.row_made.ends refl in
        let table = stepped_refused (table_of n new) folds.ends refl in
        let q = err_from_is_err_and r stops in
        rw (q.1, q.2) (record { answers = λ solved. rw (form, table); left = record { kept = folds.kept; sound = folds.sound; size = folds.stirred.same_length; hints = tt; one = tt } })

    pub fold_made : Folds n p (both nums' dens') (Ok tt) w new → Solves n p (row_at nums dens 0) (Ok 1) w new
    unfolding solve because merged ◌>>=◌
    fold_made folds =
        let form = stepped_done forms.row_made.ends refl in
        let table = stepped_done folds.ends refl in
        record {
          answers = λ solved. rw (form, table, add-one);
          left =
              record {
                kept = folds.kept;
                sound = folds.sound;
                size = folds.stirred.same_length;
                hints = record { sparse = folds.sparse refl; stirred = folds.stirred };
                one = omega arith;
              };
        }

-- The difference is settled by the unknown found, and where there is none by the constant.
module _ {n set preferred : ℕ} {nums dens : List ℤ} {w : Work} {found : Option ℕ} (asked : Settleable n set (both nums dens) w)
    (pivots : Pivots set preferred (both nums dens) found) where
  pub settle_solves : {p : ℕ} → found ≡ Some p → Solvable n p set (both nums dens) w
  settle_solves at = record { unknown = pivots.unknown _ at; settleable = asked }

  pub settles_solved : {p : ℕ} {r : Result ℕ Halt} {new : Work} → found ≡ Some p → Solves n p (row_at nums dens 0) r w new
      → Settles n preferred (row_at nums dens 0) r w new
  unfolding settle pivoted
  settles_solved at solves =
      let chosen = pivots.chosen ∙ ap pivoted at in
      record { answers = λ solved. rw chosen (solves.answers solved); left = solves.left }

  module _ {k : Fraction} (nowhere : found ≡ None) (read : k ≡ held_at nums dens TERMS) where
    none_chosen : pivot (preferring preferred) TERMS (row_at nums dens 0) ≡ none
    unfolding pivoted
    none_chosen = pivots.chosen ∙ ap pivoted nowhere

    -- To test the number read is to test the difference's last column.
    tested : eq_ℚ (column (row_at nums dens 0) constant) zero_ℚ ≡ eq_ℚ (value k) zero_ℚ
    tested = ap (λ q. eq_ℚ q zero_ℚ) (column_first nums dens TERMS (omega arith) ∙ ap value (sym read))

    good : Good k
    good = first_good asked.difference.held read (omega arith)

    pub settles_nothing : of_z w32 k.num ≡ of_z w32 (pos 0) → Settles n preferred (row_at nums dens 0) (Ok 0) w w
    unfolding settle merged
    settles_nothing zero =
        let is_zero = tested ∙ zero_tested good zero in
        record { answers = λ solved. rw (none_chosen, is_zero, add-zero); left = left_itself asked.rows }

    pub settles_contradiction : (of_z w32 k.num ≡ of_z w32 (pos 0) → ⊥) → Settles n preferred (row_at nums dens 0) (Err Contradiction) w w
    unfolding settle merged
    settles_contradiction other =
        let is-not = tested ∙ other_tested good other in
        record { answers = λ solved. rw (none_chosen, is-not); left = stopped_itself asked.rows Contradiction }

-- a row of zeros
abbrev pub zeros : Lists
zeros = both (replicate COLUMNS (pos 0)) (replicate COLUMNS (pos 1))

pub zeros_within : RowWithin 0 0 zeros
zeros_within =
    record {
      held = record { nums_fit = omega arith; dens_fit = omega arith; sound = sound_zeros COLUMNS };
      within = record { zero = λ c below out. rw zero-add (get_or-replicate COLUMNS c (pos 0) (pos 0) (omega arith)) };
    }

-- The terms are merged: the difference of their rows is taken, and settled.
module _ {n t u : ℕ} {w : Work} (asked : Mergeable n t u w) where
  -- Neither row has a column outside the union of their sets.
  pub merge_subtracts : (set : ℕ) → ((c : ℕ) → holds set c ≡ (holds (columns_of w.sets t) c || holds (columns_of w.sets u) c))
      → Subtractable (COLUMNS * t) (COLUMNS * u) set (both w.nums w.dens) zeros
  merge_subtracts set union =
      let left = columns_of w.sets t in
      let right = columns_of w.sets u in
      let sparse = asked.rows.sparse in
      record {
        left_row = record { held = rows_held asked.rows t asked.left; within = within_left left right union (sparse.within t asked.left) };
        right_row = record { held = rows_held asked.rows u asked.right; within = within_right left right union (sparse.within u asked.right) };
        zeros = zeros_within;
      }

  module _ {set : ℕ} {step : Step} {nums₀ dens₀ nums dens : List ℤ}
      (subtracts : Subtracts (COLUMNS * t) (COLUMNS * u) set step (both w.nums w.dens) (both nums₀ dens₀) (both nums dens)) where
    pub merge_settles : RowWithin 0 0 (both nums₀ dens₀) → Settleable n set (both nums dens) w
    merge_settles blank =
        let kept = subtracts.row_made.kept in
        let held = blank.held in
        record {
          rows = asked.rows;
          difference =
              record {
                held = record { nums_fit = omega (arith, held.nums_fit, kept.nums_length); dens_fit = omega (arith, held.dens_fit, kept.dens_length); sound = subtracts.row_made.sound };
                within = subtracts.within;
              };
        }

  -- The difference of two rows of the table is that of the rows that stand there.
  difference_read : difference (row_of (table_of n w) t) (row_of (table_of n w) u) ≡ row (apart (COLUMNS * t) (COLUMNS * u) (both w.nums w.dens))
  unfolding difference
  difference_read =
      ap₂ (λ r s. row (λ c. minus (column r c) (column s c))) (row_held_lem n w.nums w.dens t asked.left) (row_held_lem n w.nums w.dens u asked.right)

  -- The difference is refused; or it is made, and settled.
  module _ {set preferred : ℕ} {nums₀ dens₀ nums dens : List ℤ} where
    pub difference_refused : {why : Reason} {r : Result ℕ Halt}
        → Subtracts (COLUMNS * t) (COLUMNS * u) set (Err why) (both w.nums w.dens) (both nums₀ dens₀) (both nums dens) → IsErrAnd r (λ halt. halt ≡ Refused (number_of why))
        → Merges n t u preferred r w w
    unfolding merge merged because ◌>>=◌
    difference_refused {why} {r} subtracts stops =
        let none = difference_read ∙ stepped_refused (row_at nums dens 0) subtracts.row_made.ends refl in
        let q = err_from_is_err_and r stops in
        rw (q.1, q.2) (record { answers = λ solved. rw none; left = stopped_itself asked.rows (Refused (number_of why)) })

    pub difference_made : {r : Result ℕ Halt} {new : Work}
        → Subtracts (COLUMNS * t) (COLUMNS * u) set (Ok tt) (both w.nums w.dens) (both nums₀ dens₀) (both nums dens)
        → Settles n preferred (row_at nums dens 0) r w new → Merges n t u preferred r w new
    unfolding merge because ◌>>=◌
    difference_made subtracts settles =
        let makes = difference_read ∙ stepped_done subtracts.row_made.ends refl in
        record { answers = λ solved. rw makes (settles.answers solved); left = settles.left }

-- Where no unknown is preferred, the one of the highest number is solved.
pub merges_by_number : {n t u : ℕ} {r : Result ℕ Halt} {old new : Work} → Merges n t u 0 r old new → (solved : ℕ)
    → merge by_number t u (state_of n old solved) ≡ merged r solved (table_of n new)
merges_by_number {n} {t} {u} {r} {old} {new} merges solved =
    subst (λ rank. merge rank t u (state_of n old solved) ≡ merged r solved (table_of n new)) preferring_none (merges.answers solved)
