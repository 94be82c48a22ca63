-- `run_build::links::earlier_of` meets its contract. Assumes nothing.
use Rattle.std.proofs.Common.{arith}
use Rattle.run_build.proofs.Linking.{earlier_found}
use Rattle.run_build.proofs.links.earlier_of.Goals as goal

pub returns-then-heads-i : goal.returns-then-heads-i
returns-then-heads-i c = earlier_found c.requires c.loop-i.auto.i (omega arith) c.loop-i.invariant c.if-heads-i.true c.with.ensures
