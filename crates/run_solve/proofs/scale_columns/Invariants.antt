-- `run_solve::scale_columns` meets its contract. The loop's invariant: the columns passed are multiplied, the others stand as they were, and
-- all that is written is in the set. Assumes nothing.
use Prim.Native.Nat.{◌-◌}
use Rattle.rules_run.specs.Row.{COLUMNS}
use Rattle.run_table.specs.Lists.{both}
use Rattle.run_table.proofs.OverSet.{Taking}
use Rattle.run_solve.specs.Contract.{scaled_in}
use Rattle.run_solve.proofs.scale_columns.Given as goal

abbrev pub invariant-loop-c : goal.invariant-loop-c
invariant-loop-c l = Taking (scaled_in l.factor l.set (both l.initial.d_nums l.initial.d_dens)) 0 COLUMNS l.set l.c l.rest l.initial.d_nums l.initial.d_dens l.d_nums l.d_dens

abbrev pub decreases-loop-c : goal.decreases-loop-c
decreases-loop-c l = COLUMNS - l.c
