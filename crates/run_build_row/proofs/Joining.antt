-- The loop that makes the row of a gain, a sum or a difference: the law of loops over the columns of a set, put to use.
-- Main definition: `Joining`. Main results: `joining_starts`, `joining_answers`, `joining_makes`. Assume nothing.
use Rattle.std.specs.Prelude.{Result}
use Rattle.answer.specs.declared.Reason.{Reason}
use mathlib.Core.Path.{subst}
use mathlib.Core.List.{List}
use Prim.Native.Nat.{ℕ, ◌+◌, ◌*◌}
use native.Mathlib.Omega.{arith}
use lib.IntN.{ℤ}
use Rattle.fraction_reduce.specs.Values.{Answers}
use Rattle.fraction.specs.declared.Fraction.{Fraction}
use Rattle.rules_problem.specs.declared.Kind.{Kind}
use Rattle.rules_run.specs.Row.{COLUMNS}
use Rattle.rules_run.specs.Build.{built_column}
use Rattle.run_table.specs.Step.{Step}
use Rattle.run_table.specs.Lists.{Lists, both}
use Rattle.run_table.proofs.OverSet.{Taking, Gone, taking_starts, gone_within}
use Rattle.run_build_row.specs.Contract.{column_built, Joinable, Makes}
use Rattle.run_build_row.proofs.Building.{table_kept, row_made_built}
use Rattle.run_build_row.proofs.Sparse.{blank_sound, blank_within, blank_leaves}

-- the columns of row t below c are made by its rule, and `rest` has the columns that are left of the set
abbrev pub Joining : (kind : Kind) (t columns c rest : ℕ) (old : Lists) (nums dens : List ℤ) → Type 0
Joining kind t columns c rest old nums dens = Taking (column_built kind t old) (COLUMNS * t) (COLUMNS * (t + 1)) columns c rest old.nums old.dens nums dens

module _ {kind : Kind} {factor : Fraction} {t columns : ℕ} {old : Lists} (asked : Joinable kind factor t columns old) where
  pub joining_starts : Joining kind t columns 0 columns old old.nums old.dens
  joining_starts =
      let row = asked.asked.row in
      let room = row.rows.room in
      let few = room.few in
      taking_starts (omega (arith, room.nums_fit)) (omega (arith, room.dens_fit)) (omega arith) (blank_sound row.blank row.rows.sound) (blank_leaves row.blank asked.asked.covered)

  module _ {c rest : ℕ} (at : ℕ) {nums dens : List ℤ} (joining : Joining kind t columns c rest old nums dens) where
    -- What the next column comes to is the rule's column of the rows as they were.
    pub joining_answers : {r : Result Fraction Reason} → Answers r (column_built kind t (both nums dens) at) → Answers r (column_built kind t old at)
    joining_answers {r} = subst (λ table. Answers r (built_column table t kind at)) (table_kept t joining.going.making.kept)

  -- Over: the row is built, within the set.
  pub joining_makes : {step : Step} {nums dens : List ℤ} → Gone (column_built kind t old) (COLUMNS * t) (COLUMNS * (t + 1)) columns step old.nums old.dens nums dens → Makes kind t columns step old (both nums dens)
  joining_makes gone = record { built = row_made_built gone.row_made; within = gone_within gone (blank_within asked.asked.row.blank columns) }
