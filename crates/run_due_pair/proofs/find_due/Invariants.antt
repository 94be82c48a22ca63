-- `run_due_pair::find_due` meets its contract. Assumes nothing.
use Prim.Native.Nat.{◌-◌}
use Rattle.run_due_pair.proofs.Steps.{Searching}
use Rattle.run_due_pair.proofs.find_due.Given as goal

abbrev pub invariant-loop-j : goal.invariant-loop-j
invariant-loop-j l = Searching l.n l.heads l.inputs l.initial.waiting (record { nums = l.nums; dens = l.dens; sets = l.sets }) l.waiting l.j

abbrev pub decreases-loop-j : goal.decreases-loop-j
decreases-loop-j l = l.n - l.j
