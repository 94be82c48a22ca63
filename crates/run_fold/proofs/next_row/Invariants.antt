-- `run_fold::next_row` meets its contract. The loop's invariant: the rows passed hold 0 at p. Assumes nothing.
use Prim.Native.Nat.{◌-◌}
use Rattle.run_fold.specs.Contract.{Passed}
use Rattle.run_fold.proofs.next_row.Given as goal

abbrev pub invariant-loop-t : goal.invariant-loop-t
invariant-loop-t l = Passed l.n l.p l.from l.t l.nums

abbrev pub decreases-loop-t : goal.decreases-loop-t
decreases-loop-t l = l.n - l.t
