-- `run_build_row::term_row` meets its contract: by its kind a row stands alone in one column, or combines earlier ones.
-- Assumes nothing.
use Rattle.run_build_row.proofs.Alone.{unknown_makes, constant_makes}
use Rattle.run_build_row.proofs.term_row.Goals as goal

pub returns-in-Variable : goal.returns-in-Variable
returns-in-Variable c = search unknown_makes

pub returns-in-Constant : goal.returns-in-Constant
returns-in-Constant c = search constant_makes
