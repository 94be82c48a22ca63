-- `run_pivot::highest` meets its contract. The loop's invariant: the columns of the set from the end on are 0, and the last below it is in
-- the set. Assumes nothing.
use Rattle.run_pivot.proofs.Seeking.{seeking_starts, seeking_finds, seeking_goes_on, seeking_ends}
use Rattle.run_pivot.proofs.highest.Goals as goal

pub loop-end-init : goal.loop-end-init
loop-end-init c = search seeking_starts

pub returns-then-f-ne0 : goal.returns-then-f-ne0
returns-then-f-ne0 c = search seeking_finds

pub loop-end-preserved : goal.loop-end-preserved
loop-end-preserved c = search seeking_goes_on

pub returns : goal.returns
returns c = search seeking_ends
