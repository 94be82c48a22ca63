-- `run_fold::next_row` meets its contract. The loop's invariant: the rows passed hold 0 at p. Assumes nothing.
use Rattle.run_fold.proofs.Tables.{passed_starts, passed_more}
use Rattle.std.proofs.Common.{rules}
use Rattle.run_fold.proofs.next_row.Goals as goal

pub loop-t-init : goal.loop-t-init
loop-t-init c = search passed_starts

pub loop-t-preserved : goal.loop-t-preserved
loop-t-preserved c = passed_more c.loop-t-test.true (search rules) c.loop-t.invariant
