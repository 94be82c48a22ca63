-- The loop in which the columns of a row gain k times the form's: how it begins, what a turn makes of a column, and what it leaves.
-- Main results: `gaining_starts`, `gaining_asks`, `gaining_stores`, `gaining_passes`, `gaining_stops`, `gaining_ends`. Assume nothing.
use Rattle.std.specs.Prelude.{Err, Ok, Result, IsErrAnd}
use Rattle.std.proofs.lemmas.Result.{err_from_is_err_and}
use Rattle.answer.specs.declared.Reason.{Reason}
use mathlib.Core.Path.{◌≡◌, refl, sym, ap, ap₂, ◌∙◌, subst}
use mathlib.Core.List.{List}
use Prim.Native.Nat.{ℕ, ◌+◌, ◌≤◌, ◌<◌}
use native.Mathlib.Omega.{arith}
use lib.IntN.{ℤ, pos}
use lib.ListN.{set as stored_at}
use mir.Syntax.{w32}
use mir.Val.{of_z}
use Rattle.set_extremes.specs.Extremes.{Next, Rest}
use Rattle.fraction.specs.declared.Fraction.{Fraction}
use Rattle.fraction_reduce.specs.Values.{value, Good, Answers}
use Rattle.fraction_reduce.proofs.Tests.{zero_value}
use Rattle.rules_run.specs.Row.{COLUMNS}
use Rattle.run_table.specs.Step.{Step}
use Rattle.run_table.specs.Held.{held_at, row_at}
use Rattle.run_table.specs.Lists.{both}
use Rattle.run_table.proofs.Columns.{column_held, column_first}
use Rattle.run_table.proofs.Lists.{first_good}
use Rattle.run_table.proofs.OverSet.{Taking, taking_starts, taking_next, taking_stores, taking_passes, taking_stops, taking_ends, going_reads, going_good}
use Rattle.run_table.proofs.Reached.{reached_next, reached_leaves}
use Rattle.run_fold.specs.Cell.{gained_by, gained_column}
use Rattle.run_fold.specs.Contract.{Gainable, GainableRow, gained_in, GainsRow}
use Rattle.run_fold.proofs.Cells.{gains_no_form}

module _ {base : ℕ} {k : Fraction} {nums₀ dens₀ form-nums form-dens : List ℤ}
    (asked : GainableRow base k (both nums₀ dens₀) (both form-nums form-dens)) where
  pub gaining_starts : (set : ℕ)
      → Taking (gained_in base k set (both nums₀ dens₀) (both form-nums form-dens)) base (base + COLUMNS) set 0 set nums₀ dens₀ nums₀ dens₀
  gaining_starts set =
      let row = asked.row in
      taking_starts row.nums_fit row.dens_fit (omega arith) row.sound (reached_leaves (gained_column (value k) (row_at form-nums form-dens 0) (row_at nums₀ dens₀ base)) set base nums₀ dens₀)

  module _ {set c rest at : ℕ} {nums dens : List ℤ} {form : Fraction}
      (taking : Taking (gained_in base k set (both nums₀ dens₀) (both form-nums form-dens)) base (base + COLUMNS) set c rest nums₀ dens₀ nums dens)
      (more : c < COLUMNS) (first : Next rest 0 at) (formed : form ≡ held_at form-nums form-dens at) where
    form_good : Good form
    form_good = let most = first.most in first_good asked.form_row formed (omega arith)

    -- a column that the loop comes to gains
    gains : gained_in base k set (both nums₀ dens₀) (both form-nums form-dens) at ≡ gained_by (value k) (value form) (value (held_at nums₀ dens₀ (base + at)))
    unfolding gained_column
    gains =
        let most = first.most in
        reached_next set (gained_column (value k) (row_at form-nums form-dens 0) (row_at nums₀ dens₀ base)) (row_at nums₀ dens₀ base) (taking_next taking more first)
        ∙ ap₂ (gained_by (value k)) (column_first form-nums form-dens at (omega arith) ∙ sym (ap value formed)) (column_held nums₀ dens₀ base at (omega arith))

    -- Where the form holds 0 the number stands.
    pub gaining_passes : {after : ℕ} → Rest rest after → of_z w32 form.num ≡ of_z w32 (pos 0)
        → Taking (gained_in base k set (both nums₀ dens₀) (both form-nums form-dens)) base (base + COLUMNS) set (at + 1) after nums₀ dens₀ nums dens
    gaining_passes others none =
        let most = first.most in
        taking_passes taking more first others
        (gains ∙ ap (λ f. gained_by (value k) f (value (held_at nums₀ dens₀ (base + at)))) (zero_value form_good none) ∙ gains_no_form (value k) (asked.row.sound.good (base + at) (omega arith)))

    module _ {old : Fraction} (read : old ≡ held_at nums dens (base + at)) where
      pub gaining_asks : Gainable k form old
      gaining_asks = record { coefficient_good = asked.coefficient_good; form_good = form_good; number_good = going_good taking.going (taking_next taking more first) refl read }

      -- The loop reads a number that stands as it did when the loop began: what answers for it answers for the column.
      column_answers : {r : Result Fraction Reason} → Answers r (gained_by (value k) (value form) (value old))
          → Answers r (gained_in base k set (both nums₀ dens₀) (both form-nums form-dens) at)
      column_answers {r} answers =
          subst (Answers r) (ap (λ x. gained_by (value k) (value form) (value x)) (read ∙ going_reads taking.going (taking_next taking more first)) ∙ sym gains) answers

      -- It is stored, and the loop goes on; or it is refused, and the loop is over.
      pub gaining_stores : {after : ℕ} {f : Fraction} {nums' dens' : List ℤ} → Rest rest after → Answers (Ok f) (gained_by (value k) (value form) (value old))
          → nums' ≡ stored_at nums (base + at) f.num → dens' ≡ stored_at dens (base + at) f.den
          → Taking (gained_in base k set (both nums₀ dens₀) (both form-nums form-dens)) base (base + COLUMNS) set (at + 1) after nums₀ dens₀ nums' dens'
      gaining_stores others answers num den = taking_stores taking more first others (column_answers answers) refl refl num den

      pub gaining_stops : {why : Reason} {step : Step} → Answers (Err why) (gained_by (value k) (value form) (value old))
          → IsErrAnd step (λ reason. reason ≡ why) → GainsRow base k set (both form-nums form-dens) step (both nums₀ dens₀) (both nums dens)
      gaining_stops {step = step} answers refused =
          let p = err_from_is_err_and step refused in
          rw (p.1, p.2) (record { row_made = (taking_stops taking more first (column_answers answers) refl).row_made })

  pub gaining_ends : {set c rest : ℕ} {nums dens : List ℤ}
      → Taking (gained_in base k set (both nums₀ dens₀) (both form-nums form-dens)) base (base + COLUMNS) set c rest nums₀ dens₀ nums dens
      → COLUMNS ≤ c → GainsRow base k set (both form-nums form-dens) (Ok tt) (both nums₀ dens₀) (both nums dens)
  gaining_ends taking end = record { row_made = (taking_ends taking end).row_made }
