-- `run_fold::fold_rows` meets its contract. The loop's invariant: the rows passed are folded, the others stand as they were, and the sets
-- say what has happened so far. Assumes nothing.
use Rattle.run_fold.proofs.Tables.{folding_starts, folding_asks, folding_seeks, folding_goes_on, folding_stops, folding_ends}
use Rattle.run_fold.proofs.fold_rows.Goals as goal

pub loop-t-init : goal.loop-t-init
loop-t-init c = search folding_starts

pub fold_row-requires : goal.fold_row-requires
fold_row-requires c = search folding_asks

pub next_row-t-requires : goal.next_row-t-requires
next_row-t-requires c = folding_seeks c.requires c.loop-t.invariant c.loop-t-test.true c.fold_row.ensures

pub loop-t-preserved : goal.loop-t-preserved
loop-t-preserved c = search (folding_goes_on, c.in_ok-fold_row.ensures)

pub returns-in_err-fold_row : goal.returns-in_err-fold_row
returns-in_err-fold_row c = search (folding_stops, c.in_err-fold_row.ensures)

pub returns : goal.returns
returns c = search folding_ends
