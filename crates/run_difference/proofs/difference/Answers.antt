-- `run_difference::difference` meets its contract. The loop's invariant: the columns passed are those of the difference, and all that is
-- written is in the set. Assumes nothing.
use Rattle.std.proofs.Common.{arith}
use Rattle.run_table.proofs.Lists.{read_good}
use Rattle.run_table.proofs.OverSet.{taking_less}
use Rattle.run_difference.proofs.Columns.{difference_starts, difference_stores, difference_stops, difference_ends}
use Rattle.run_difference.proofs.difference.Goals as goal

pub loop-c-init : goal.loop-c-init
loop-c-init c = difference_starts c.requires

pub difference-requires : goal.difference-requires
difference-requires c = search (read_good, arith)

pub loop-c-smaller : goal.loop-c-smaller
loop-c-smaller c = search taking_less

pub loop-c-preserved : goal.loop-c-preserved
loop-c-preserved c = search (difference_stores, c.in_ok-f.ensures)

pub returns-in_err-f : goal.returns-in_err-f
returns-in_err-f c = search (difference_stops, c.in_err-f.ensures)

pub returns : goal.returns
returns c = search difference_ends
