-- The loop that multiplies the columns of a difference by a factor: how it begins, what a turn makes of a column, and what it leaves.
-- Main results: `scaling_starts`, `scaling_asks`, `scaling_stores`, `scaling_stops`, `scaling_ends`. Assume nothing.
use Rattle.std.specs.Prelude.{Err, Ok, Result, IsErrAnd}
use Rattle.std.proofs.lemmas.Result.{err_from_is_err_and}
use Rattle.answer.specs.declared.Reason.{Reason}
use mathlib.Core.Path.{◌≡◌, refl, sym, ap, ◌∙◌, subst}
use mathlib.Core.List.{List}
use Prim.Native.Nat.{ℕ, ◌+◌, ◌≤◌, ◌<◌}
use native.Mathlib.Nat.{zero-add}
use native.Mathlib.Omega.{arith}
use lib.IntN.{ℤ}
use lib.ListN.{set as stored_at}
use Rattle.set_extremes.specs.Extremes.{Next, Rest}
use Rattle.fraction.specs.declared.Fraction.{Fraction}
use Rattle.fraction.specs.Limits.{times}
use Rattle.fraction_reduce.specs.Values.{value, Answers}
use Rattle.rules_run.specs.Row.{COLUMNS}
use Rattle.run_table.specs.Step.{Step}
use Rattle.run_table.specs.Held.{held_at, row_at}
use Rattle.run_table.specs.Lists.{both}
use Rattle.run_table.proofs.Columns.{column_held}
use Rattle.run_table.proofs.OverSet.{Taking, taking_starts, taking_next, taking_stores, taking_stops, taking_ends, going_reads, going_good, Gone, gone_within}
use Rattle.run_table.proofs.Reached.{reached_next, reached_leaves}
use Rattle.run_solve.specs.Cell.{scaled_column}
use Rattle.run_solve.specs.Contract.{Scalable, ScalableRow, scaled_in, ScalesRow}

module _ {factor : Fraction} {set : ℕ} {nums₀ dens₀ : List ℤ} (asked : ScalableRow factor set (both nums₀ dens₀)) where
  pub scaling_starts : Taking (scaled_in factor set (both nums₀ dens₀)) 0 COLUMNS set 0 set nums₀ dens₀ nums₀ dens₀
  scaling_starts =
      let held = asked.row.held in
      taking_starts held.nums_fit held.dens_fit (omega arith) held.sound (reached_leaves (scaled_column (value factor) (row_at nums₀ dens₀ 0)) set 0 nums₀ dens₀)

  over : {step : Step} {nums dens : List ℤ} → Gone (scaled_in factor set (both nums₀ dens₀)) 0 COLUMNS set step nums₀ dens₀ nums dens
      → ScalesRow factor set step (both nums₀ dens₀) (both nums dens)
  over gone = record { row_made = gone.row_made; within = gone_within gone asked.row.within }

  module _ {c rest at : ℕ} {nums dens : List ℤ} {x : Fraction}
      (taking : Taking (scaled_in factor set (both nums₀ dens₀)) 0 COLUMNS set c rest nums₀ dens₀ nums dens) (more : c < COLUMNS)
      (first : Next rest 0 at) (read : x ≡ held_at nums dens at) where
    pub scaling_asks : Scalable factor x
    scaling_asks = record { factor_good = asked.factor_good; number_good = going_good taking.going (taking_next taking more first) (sym (zero-add at)) read }

    -- The loop reads a number that stands as it did when the loop began: what answers for it answers for the column.
    column_answers : {r : Result Fraction Reason} → Answers r (times (value factor) (value x)) → Answers r (scaled_in factor set (both nums₀ dens₀) at)
    unfolding scaled_column
    column_answers {r} answers =
        let next = taking_next taking more first in
        let most = next.most in
        let stands : held_at nums dens at ≡ held_at nums₀ dens₀ (0 + at) = ap (held_at nums dens) (sym (zero-add at)) ∙ going_reads taking.going next in
        subst (Answers r)
        (ap (times (value factor)) (ap value (read ∙ stands) ∙ sym (column_held nums₀ dens₀ 0 at (omega arith)))
        ∙ sym (reached_next set (scaled_column (value factor) (row_at nums₀ dens₀ 0)) (row_at nums₀ dens₀ 0) next))
        answers

    -- It is stored, and the loop goes on; or it is refused, and the loop is over.
    pub scaling_stores : {after : ℕ} {f : Fraction} {nums' dens' : List ℤ} → Rest rest after → Answers (Ok f) (times (value factor) (value x))
        → nums' ≡ stored_at nums at f.num → dens' ≡ stored_at dens at f.den
        → Taking (scaled_in factor set (both nums₀ dens₀)) 0 COLUMNS set (at + 1) after nums₀ dens₀ nums' dens'
    scaling_stores others answers num den = taking_stores taking more first others (column_answers answers) refl (sym (zero-add at)) num den

    pub scaling_stops : {why : Reason} {step : Step} → Answers (Err why) (times (value factor) (value x)) → IsErrAnd step (λ reason. reason ≡ why)
        → ScalesRow factor set step (both nums₀ dens₀) (both nums dens)
    scaling_stops {step = step} answers refused =
        let p = err_from_is_err_and step refused in
        rw (p.1, p.2) (over (taking_stops taking more first (column_answers answers) refl))

  pub scaling_ends : {c rest : ℕ} {nums dens : List ℤ}
      → Taking (scaled_in factor set (both nums₀ dens₀)) 0 COLUMNS set c rest nums₀ dens₀ nums dens → COLUMNS ≤ c
      → ScalesRow factor set (Ok tt) (both nums₀ dens₀) (both nums dens)
  scaling_ends taking end = over (taking_ends taking end)
