-- `run_equal_rows::same_in` meets its contract. Assumes nothing.
use Rattle.run_equal_rows.proofs.Compare.{itself_same, right_differs, left_differs, rows_within, rows_tested}
use Rattle.run_equal_rows.proofs.same_in.Goals as goal

pub returns-then-t-u : goal.returns-then-t-u
returns-then-t-u c = search itself_same

pub returns-then-differ_at : goal.returns-then-differ_at
returns-then-differ_at c = search right_differs

pub returns-then-differ_at-2 : goal.returns-then-differ_at-2
returns-then-differ_at-2 c = search left_differs

pub same_places-requires : goal.same_places-requires
same_places-requires c = search rows_within

pub returns : goal.returns
returns c = search rows_tested
