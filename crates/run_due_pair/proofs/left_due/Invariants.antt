-- `run_due_pair::left_due` meets its contract. Assumes nothing.
use Prim.Native.Nat.{◌-◌}
use Rattle.run_due_pair.proofs.Steps.{Choosing}
use Rattle.run_due_pair.proofs.left_due.Given as goal

abbrev pub invariant-loop-i : goal.invariant-loop-i
invariant-loop-i l = Choosing l.n l.lefts l.j l.heads l.inputs (record { nums = l.nums; dens = l.dens; sets = l.sets }) l.rest l.i

abbrev pub decreases-loop-i : goal.decreases-loop-i
decreases-loop-i l = l.j - l.i
