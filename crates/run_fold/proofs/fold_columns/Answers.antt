-- `run_fold::fold_columns` meets its contract: 0 is stored in the solved column, and the others gain in a loop. Assumes nothing.
use Rattle.run_fold.proofs.Columns.{fold_asks, fold_made}
use Rattle.run_fold.proofs.fold_columns.Goals as goal

pub gain_columns-requires : goal.gain_columns-requires
gain_columns-requires c = search fold_asks

pub returns : goal.returns
returns c = search fold_made
