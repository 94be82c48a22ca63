-- `run_due_pair::left_due` meets its contract. Assumes nothing.
use Rattle.std.proofs.Common.{rules}
use Rattle.run_due_pair.proofs.Steps.{choosing_starts, choosing_found, choosing_less, choosing_on, choosing_over}
use Rattle.run_due_pair.proofs.left_due.Goals as goal

pub loop-i-init : goal.loop-i-init
loop-i-init c = search choosing_starts

pub returns-then-is_due : goal.returns-then-is_due
returns-then-is_due c = search choosing_found

pub loop-i-smaller : goal.loop-i-smaller
loop-i-smaller c = search choosing_less

pub loop-i-preserved : goal.loop-i-preserved
loop-i-preserved c = search choosing_on

pub returns : goal.returns
returns c = search (choosing_over, rules)
