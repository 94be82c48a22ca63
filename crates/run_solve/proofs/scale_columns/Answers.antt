-- `run_solve::scale_columns` meets its contract. The loop's invariant: the columns passed are multiplied, the others stand as they were, and
-- all that is written is in the set. Assumes nothing.
use Rattle.run_table.proofs.OverSet.{taking_less}
use Rattle.run_solve.proofs.Columns.{scaling_starts, scaling_asks, scaling_stores, scaling_stops, scaling_ends}
use Rattle.run_solve.proofs.scale_columns.Goals as goal

pub loop-c-init : goal.loop-c-init
loop-c-init c = search scaling_starts

pub scaled-requires : goal.scaled-requires
scaled-requires c = search scaling_asks

pub loop-c-smaller : goal.loop-c-smaller
loop-c-smaller c = search taking_less

pub loop-c-preserved : goal.loop-c-preserved
loop-c-preserved c = search (scaling_stores, c.in_ok-f.ensures)

pub returns-in_err-f : goal.returns-in_err-f
returns-in_err-f c = search (scaling_stops, c.in_err-f.ensures)

pub returns : goal.returns
returns c = search scaling_ends
