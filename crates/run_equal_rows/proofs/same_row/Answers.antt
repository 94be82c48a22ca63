-- `run_equal_rows::same_row` meets its contract. Assumes nothing.
use Rattle.run_equal_rows.proofs.Compare.{left_row_within, right_row_within, terms_within}
use Rattle.run_equal_rows.proofs.same_row.Goals as goal

pub same_in-requires : goal.same_in-requires
same_in-requires c = search (terms_within, left_row_within, right_row_within)
