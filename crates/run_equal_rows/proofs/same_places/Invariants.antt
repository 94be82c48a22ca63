-- `run_equal_rows::same_places` meets its contract. Assumes nothing.
use Rattle.run_equal_rows.proofs.Compare.{Comparing}
use Rattle.run_equal_rows.proofs.same_places.Given as goal

abbrev pub invariant-loop-c : goal.invariant-loop-c
invariant-loop-c l = Comparing l.nums l.dens l.left l.right l.c

abbrev pub decreases-loop-c : goal.decreases-loop-c
decreases-loop-c l = l.c
