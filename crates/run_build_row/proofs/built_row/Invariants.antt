-- `run_build_row::built_row` meets its contract. The loop's invariant: the columns passed are those of the rule, and all that is written
-- is in the set. Assumes nothing.
use Prim.Native.Nat.{◌-◌}
use Rattle.rules_run.specs.Row.{COLUMNS}
use Rattle.run_table.specs.Lists.{both}
use Rattle.run_build_row.proofs.Joining.{Joining}
use Rattle.run_build_row.proofs.built_row.Given as goal

abbrev pub invariant-loop-c : goal.invariant-loop-c
invariant-loop-c l = Joining l.kind l.t l.columns l.c l.rest (both l.initial.nums l.initial.dens) l.nums l.dens

abbrev pub decreases-loop-c : goal.decreases-loop-c
decreases-loop-c l = COLUMNS - l.c
