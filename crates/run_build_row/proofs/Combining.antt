-- A column of a row that is made of earlier rows: what is read of them is good, and what the operation answers is the rule's column.
-- Main results: `earlier_read`, `earlier_good`, `gain_answers`, `sum_answers`, `difference_answers`. Assume nothing.
use Rattle.std.specs.Prelude.{Result}
use Rattle.answer.specs.declared.Reason.{Reason}
use mathlib.Core.Path.{◌≡◌, sym, ap₂, subst}
use Prim.Native.Nat.{ℕ, ◌<◌}
use native.Mathlib.Omega.{arith}
use Rattle.fraction.specs.declared.Fraction.{Fraction}
use Rattle.fraction.specs.declared.Scaled.{Scaled}
use Rattle.fraction.specs.Exact.{worth}
use Rattle.fraction.specs.Limits.{plus, minus, times}
use Rattle.fraction_reduce.specs.Values.{value, Good, Stands, Answers}
use Rattle.rules_problem.specs.declared.Kind.{Kind}
use Rattle.rules_problem.specs.declared.Kind.TheVariants.{Gain, Sum, Difference}
use Rattle.rules_run.specs.Row.{cell}
use Rattle.rules_run.specs.Build.{built_column}
use Rattle.run_table.specs.Held.{table_at}
use Rattle.run_table.specs.Lists.{Lists}
use Rattle.run_build_row.specs.Contract.{column_built, cell_at, CellReadable, Combinable}
use Rattle.run_build_row.proofs.Columns.{cell_stands}
use Rattle.run_build_row.proofs.Inputs.{gain_below, gain_holds, sum_left, sum_right, difference_left, difference_right}

module _ {kind : Kind} {factor : Fraction} {t c : ℕ} {l : Lists} (asked : Combinable kind factor t c l) where
  pub earlier_read : {input : ℕ} → input < t → CellReadable input c l
  earlier_read before =
      let room = asked.rows.room in
      record { room = record { few = omega arith; nums_fit = room.nums_fit; dens_fit = room.dens_fit }; column = asked.column }

  -- what is read of an earlier row is what the table has there
  earlier_stands : {input : ℕ} {f : Fraction} → input < t → f ≡ cell_at input c l → Stands f (cell (table_at t l.nums l.dens) input c)
  earlier_stands {input} before read = cell_stands l.nums l.dens t input c asked.rows.sound before asked.column read

  pub earlier_good : {input : ℕ} {f : Fraction} → input < t → f ≡ cell_at input c l → Good f
  earlier_good before read = (earlier_stands before read).good

  -- the rule for the kind that the match found
  found : {r : Result Fraction Reason} {other : Kind} → kind ≡ other → Answers r (column_built other t l c) → Answers r (column_built kind t l c)
  found {r} is = subst (λ k. Answers r (column_built k t l c)) (sym is)

  pub gain_answers : {s : Scaled} {f : Fraction} {input : ℕ} {r : Result Fraction Reason} → kind ≡ Gain s input → f ≡ cell_at input c l → Answers r (times (value factor) (value f)) → Answers r (column_built kind t l c)
  unfolding built_column
  gain_answers {r = r} is read answers =
      found is (subst (Answers r) (ap₂ times (gain_holds (λ s. value factor ≡ worth s) asked.fraction.same is) (earlier_stands (gain_below asked.inputs is) read).same) answers)

  module _ {left right : ℕ} {f g : Fraction} {r : Result Fraction Reason} where
    pub sum_answers : kind ≡ Sum left right → f ≡ cell_at left c l → g ≡ cell_at right c l → Answers r (plus (value f) (value g)) → Answers r (column_built kind t l c)
    unfolding built_column
    sum_answers is first second answers =
        let inputs = asked.inputs in
        found is (subst (Answers r) (ap₂ plus (earlier_stands (sum_left inputs is) first).same (earlier_stands (sum_right inputs is) second).same) answers)

    pub difference_answers : kind ≡ Difference left right → f ≡ cell_at left c l → g ≡ cell_at right c l → Answers r (minus (value f) (value g)) → Answers r (column_built kind t l c)
    unfolding built_column
    difference_answers is first second answers =
        let inputs = asked.inputs in
        found is (subst (Answers r) (ap₂ minus (earlier_stands (difference_left inputs is) first).same (earlier_stands (difference_right inputs is) second).same) answers)
