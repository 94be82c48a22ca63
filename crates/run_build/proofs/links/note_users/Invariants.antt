-- `run_build::links::note_users` meets its contract. Assumes nothing.
use Rattle.run_build.proofs.Linking.{Using}
use Rattle.run_build.proofs.links.note_users.Given as goal

abbrev pub invariant-loop-i : goal.invariant-loop-i
invariant-loop-i l = Using l.i l.t l.inputs l.initial.sets l.sets
