-- `run_fold::gain_columns` meets its contract. The loop's invariant: the columns passed have gained, the others stand as they were.
-- Assumes nothing.
use Prim.Native.Nat.{◌+◌, ◌-◌}
use Rattle.rules_run.specs.Row.{COLUMNS}
use Rattle.run_table.specs.Lists.{both}
use Rattle.run_table.proofs.OverSet.{Taking}
use Rattle.run_fold.specs.Contract.{gained_in}
use Rattle.run_fold.proofs.gain_columns.Given as goal

abbrev pub invariant-loop-c : goal.invariant-loop-c
invariant-loop-c l = Taking (gained_in l.base l.k l.set (both l.initial.nums l.initial.dens) (both l.form_nums l.form_dens)) l.base (l.base + COLUMNS) l.set l.c l.rest l.initial.nums l.initial.dens l.nums l.dens

abbrev pub decreases-loop-c : goal.decreases-loop-c
decreases-loop-c l = COLUMNS - l.c
