-- `run_build_row::built_row` meets its contract. The loop's invariant: the columns passed are those of the rule, and all that is written
-- is in the set. Assumes nothing.
use Rattle.std.proofs.Common.{arith}
use Rattle.std.proofs.lemmas.Result.{err_from_is_err_and}
use Rattle.run_table.proofs.OverSet.{taking_stores, taking_stops, taking_ends}
use Rattle.run_build_row.proofs.Joining.{joining_starts, joining_answers, joining_makes}
use Rattle.run_build_row.proofs.built_row.Goals as goal

pub loop-c-init : goal.loop-c-init
loop-c-init c = search joining_starts

pub loop-c-preserved : goal.loop-c-preserved
loop-c-preserved c = let fits = c.in_ok-f.was in search (taking_stores, joining_answers, arith)

pub returns-in_err-f : goal.returns-in_err-f
returns-in_err-f c =
    let refused = c.in_err-f.was in
    let same = err_from_is_err_and c.from_residual.result c.from_residual.ensures.1 in
    rw (same.1, same.2) (search (joining_makes, taking_stops, joining_answers, arith))

pub returns : goal.returns
returns c = search (joining_makes, taking_ends)
