-- `run_difference::difference` meets its contract. The loop's invariant: the columns passed are those of the difference, and all that is
-- written is in the set. Assumes nothing.
use Prim.Native.Nat.{◌-◌}
use Rattle.rules_run.specs.Row.{COLUMNS}
use Rattle.run_table.specs.Lists.{both}
use Rattle.run_table.proofs.OverSet.{Taking}
use Rattle.run_difference.specs.Contract.{apart}
use Rattle.run_difference.proofs.difference.Given as goal

abbrev pub invariant-loop-c : goal.invariant-loop-c
invariant-loop-c l = Taking (apart l.left l.right (both l.nums l.dens)) 0 COLUMNS l.set l.c l.rest l.initial.d_nums l.initial.d_dens l.d_nums l.d_dens

abbrev pub decreases-loop-c : goal.decreases-loop-c
decreases-loop-c l = COLUMNS - l.c
