-- `run_assume::assume_all` meets its contract. Assumes nothing.
use Rattle.run_assume.proofs.All.{Assuming}
use Rattle.run_assume.proofs.assume_all.Given as goal

abbrev pub invariant-loop-k : goal.invariant-loop-k
invariant-loop-k l = Assuming l.bytes l.n l.m l.solved l.heads l.inputs (record { nums = l.initial.nums; dens = l.initial.dens; sets = l.initial.sets }) l.count l.k (record { nums = l.nums; dens = l.dens; sets = l.sets })
