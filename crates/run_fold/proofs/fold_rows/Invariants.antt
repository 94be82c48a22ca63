-- `run_fold::fold_rows` meets its contract. The loop's invariant: the rows passed are folded, the others stand as they were, and the sets
-- say what has happened so far. Assumes nothing.
use Prim.Native.Nat.{◌-◌}
use Rattle.run_table.specs.Lists.{both}
use Rattle.run_fold.proofs.Tables.{Folding}
use Rattle.run_fold.proofs.fold_rows.Given as goal

abbrev pub invariant-loop-t : goal.invariant-loop-t
invariant-loop-t l = Folding l.n l.p (both l.form_nums l.form_dens) l.t (record { nums = l.initial.nums; dens = l.initial.dens; sets = l.initial.sets }) (record { nums = l.nums; dens = l.dens; sets = l.sets })

abbrev pub decreases-loop-t : goal.decreases-loop-t
decreases-loop-t l = l.n - l.t
