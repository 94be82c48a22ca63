-- `run_close::close` meets its contract. Assumes nothing.
use Rattle.run_close.proofs.Turns.{Closing}
use Rattle.run_close.proofs.close.Given as goal

abbrev pub invariant-loop : goal.invariant-loop
invariant-loop l = Closing l.n l.solved l.heads l.inputs (record { nums = l.initial.nums; dens = l.initial.dens; sets = l.initial.sets }) l.count l.counter (record { nums = l.nums; dens = l.dens; sets = l.sets }) l.waiting
