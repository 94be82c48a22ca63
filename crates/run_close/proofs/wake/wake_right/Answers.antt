-- `run_close::wake::wake_right` meets its contract. Assumes nothing.
use Rattle.std.proofs.Common.{arith}
use Rattle.run_close.proofs.Waking.{none_noted, right_noted}
use Rattle.run_close.proofs.wake.wake_right.Goals as goal

pub returns-then-woken-eq0 : goal.returns-then-woken-eq0
returns-then-woken-eq0 c = search none_noted

pub returns : goal.returns
returns c = let asked = c.requires in
    right_noted c.args.waiting.now c.args.j c.union-lefts.result c.with-rights.result c.candidates-woken.result (omega arith) (omega arith) c.union-lefts.ensures c.with-rights.ensures c.candidates-woken.ensures
