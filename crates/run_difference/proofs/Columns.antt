-- The loop over the columns of a difference: how it begins, what a turn makes of a column, and what it leaves.
-- Main results: `difference_starts`, `difference_stores`, `difference_stops`, `difference_ends`. Assume nothing.
use Rattle.std.specs.Prelude.{Err, Ok, Result, IsErrAnd}
use Rattle.std.proofs.lemmas.Result.{err_from_is_err_and}
use Rattle.answer.specs.declared.Reason.{Reason}
use mathlib.Core.Path.{◌≡◌, refl, sym, ap, ap₂, ◌∙◌, subst}
use mathlib.Core.List.{List}
use Prim.Native.Nat.{ℕ, ◌+◌, ◌≤◌, ◌<◌}
use native.Mathlib.Nat.{zero-add}
use native.Mathlib.Omega.{arith}
use lib.ListN.{set as stored_at}
use lib.IntN.{ℤ}
use Rattle.set_members.proofs.Digits.{holds_none}
use Rattle.set_extremes.specs.Extremes.{Next, Rest}
use Rattle.fraction.specs.declared.Fraction.{Fraction}
use Rattle.fraction.specs.Exact.{zero_ℚ}
use Rattle.fraction.specs.Limits.{tested, minus}
use Rattle.fraction.specs.Made.{made}
use Rattle.fraction.proofs.Field.{minus_is_plus, plus_inverse}
use Rattle.fraction_reduce.specs.Values.{value, Answers}
use Rattle.fraction_reduce.proofs.Tests.{zero_passes}
use Rattle.rules_run.specs.Row.{COLUMNS}
use Rattle.run_table.specs.Step.{Step}
use Rattle.run_table.specs.Held.{held_at}
use Rattle.run_table.specs.Lists.{both}
use Rattle.run_table.proofs.Columns.{column_held}
use Rattle.run_table.proofs.Lists.{column_nothing, within_any}
use Rattle.run_table.proofs.OverSet.{Leaves, Taking, taking_starts, taking_stores, taking_stops, taking_ends, Gone, gone_within}
use Rattle.run_difference.specs.Contract.{Subtractable, apart, Subtracts}

-- 0 minus 0 is 0.
differs_nothing : minus zero_ℚ zero_ℚ ≡ made zero_ℚ
unfolding minus
differs_nothing = ap tested (sym (minus_is_plus zero_ℚ zero_ℚ) ∙ plus_inverse zero_ℚ) ∙ zero_passes

module _ {left right set : ℕ} {nums dens nums₀ dens₀ : List ℤ} (asked : Subtractable left right set (both nums dens) (both nums₀ dens₀)) where
  -- Outside the set both rows hold 0, and so does the row to be written.
  leaves : Leaves (apart left right (both nums dens)) set 0 nums₀ dens₀
  leaves =
      record {
        stands = λ c below out.
            ap₂ minus (column_nothing asked.left_row c below out) (column_nothing asked.right_row c below out)
            ∙ differs_nothing ∙ ap made (sym (column_nothing asked.zeros c below (holds_none c)) ∙ column_held nums₀ dens₀ 0 c (omega arith));
      }

  pub difference_starts : Taking (apart left right (both nums dens)) 0 COLUMNS set 0 set nums₀ dens₀ nums₀ dens₀
  difference_starts = taking_starts asked.zeros.held.nums_fit asked.zeros.held.dens_fit (omega arith) asked.zeros.held.sound leaves

  over : {step : Step} {nums' dens' : List ℤ} → Gone (apart left right (both nums dens)) 0 COLUMNS set step nums₀ dens₀ nums' dens'
      → Subtracts left right set step (both nums dens) (both nums₀ dens₀) (both nums' dens')
  over gone = record { row_made = gone.row_made; within = gone_within gone (within_any asked.zeros.within) }

  module _ {c rest at : ℕ} {nums₁ dens₁ : List ℤ} {a b : Fraction}
      (taking : Taking (apart left right (both nums dens)) 0 COLUMNS set c rest nums₀ dens₀ nums₁ dens₁) (more : c < COLUMNS)
      (first : Next rest 0 at) (from-left : a ≡ held_at nums dens (left + at)) (from-right : b ≡ held_at nums dens (right + at)) where
    -- What answers for the two numbers that stand there answers for the column.
    column_answers : {r : Result Fraction Reason} → Answers r (minus (value a) (value b)) → Answers r (apart left right (both nums dens) at)
    column_answers {r} answers =
        let most = first.most in
        subst (Answers r) (ap₂ minus (ap value from-left ∙ sym (column_held nums dens left at (omega arith))) (ap value from-right ∙ sym (column_held nums dens right at (omega arith)))) answers

    -- It is stored, and the loop goes on; or it is refused, and the loop is over.
    pub difference_stores : {after : ℕ} {f : Fraction} {nums' dens' : List ℤ} → Rest rest after → Answers (Ok f) (minus (value a) (value b))
        → nums' ≡ stored_at nums₁ at f.num → dens' ≡ stored_at dens₁ at f.den
        → Taking (apart left right (both nums dens)) 0 COLUMNS set (at + 1) after nums₀ dens₀ nums' dens'
    difference_stores others answers num den = taking_stores taking more first others (column_answers answers) refl (sym (zero-add at)) num den

    pub difference_stops : {why : Reason} {step : Step} → Answers (Err why) (minus (value a) (value b)) → IsErrAnd step (λ reason. reason ≡ why)
        → Subtracts left right set step (both nums dens) (both nums₀ dens₀) (both nums₁ dens₁)
    difference_stops {step = step} answers refused =
        let p = err_from_is_err_and step refused in
        rw (p.1, p.2) (over (taking_stops taking more first (column_answers answers) refl))

  pub difference_ends : {c rest : ℕ} {nums₁ dens₁ : List ℤ}
      → Taking (apart left right (both nums dens)) 0 COLUMNS set c rest nums₀ dens₀ nums₁ dens₁ → COLUMNS ≤ c
      → Subtracts left right set (Ok tt) (both nums dens) (both nums₀ dens₀) (both nums₁ dens₁)
  difference_ends taking end = over (taking_ends taking end)
