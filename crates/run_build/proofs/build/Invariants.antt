-- `run_build::build` meets its contract. Assumes nothing.
use Rattle.run_build.proofs.Rows.{Rising}
use Rattle.run_build.proofs.build.Given as goal

-- The rows below t are built and their lookups linked, and what remains gives the same.
abbrev pub invariant-loop-t : goal.invariant-loop-t
invariant-loop-t l = Rising l.bytes l.n l.t (record { work = record { nums = l.initial.nums; dens = l.initial.dens; sets = l.initial.sets }; heads = l.initial.heads; inputs = l.initial.inputs }) (record { work = record { nums = l.nums; dens = l.dens; sets = l.sets }; heads = l.heads; inputs = l.inputs })
