-- `run_due_pair::find_due` meets its contract. Assumes nothing.
use Rattle.std.proofs.Common.{rules}
use Rattle.run_due_pair.proofs.Steps.{searching_starts, searching_found, searching_on, searching_over}
use Rattle.run_due_pair.proofs.find_due.Goals as goal

pub loop-j-init : goal.loop-j-init
loop-j-init c = search searching_starts

pub open_waiting-lefts-requires : goal.open_waiting-lefts-requires
open_waiting-lefts-requires c = search rules

pub returns-in-Some : goal.returns-in-Some
returns-in-Some c = search searching_found

pub pass-requires : goal.pass-requires
pass-requires c = search rules

pub loop-j-smaller : goal.loop-j-smaller
loop-j-smaller c = let forward = c.next-j-in-loop-j.ensures.forward in search rules

pub loop-j-preserved : goal.loop-j-preserved
loop-j-preserved c = search searching_on

pub returns : goal.returns
returns c = search (searching_over, rules)
