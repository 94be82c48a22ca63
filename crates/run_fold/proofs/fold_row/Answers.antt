-- `run_fold::fold_row` meets its contract: a row whose coefficient is 0 is its own fold. Assumes nothing.
use Rattle.run_fold.proofs.Tables.{fold_passes, fold_notes}
use Rattle.run_fold.proofs.fold_row.Goals as goal

pub returns-then-k-eq0 : goal.returns-then-k-eq0
returns-then-k-eq0 c = search fold_passes

pub returns : goal.returns
returns c = search fold_notes
