-- `run_equal_rows::same_at` meets its contract. Assumes nothing.
use Rattle.run_equal_rows.proofs.Compare.{both_good, column_tested}
use Rattle.run_equal_rows.proofs.same_at.Goals as goal

pub same_fraction-requires : goal.same_fraction-requires
same_fraction-requires c = search both_good

pub returns : goal.returns
returns c = search column_tested
