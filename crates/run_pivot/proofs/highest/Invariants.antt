-- `run_pivot::highest` meets its contract. The loop's invariant: the columns of the set from the end on are 0, and the last below it is in
-- the set. Assumes nothing.
use Rattle.run_pivot.proofs.Seeking.{Seeking}
use Rattle.run_pivot.proofs.highest.Given as goal

abbrev pub invariant-loop-end : goal.invariant-loop-end
invariant-loop-end l = Seeking l.set l.end l.d_nums l.d_dens

abbrev pub decreases-loop-end : goal.decreases-loop-end
decreases-loop-end l = l.end
