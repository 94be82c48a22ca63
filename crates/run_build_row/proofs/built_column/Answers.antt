-- `run_build_row::built_column` meets its contract: the operation of the term's kind, on what its inputs' rows hold. Assumes nothing.
use Rattle.run_build_row.proofs.Combining.{gain_answers, sum_answers, difference_answers}
use Rattle.run_build_row.proofs.built_column.Goals as goal

pub returns-in-Gain : goal.returns-in-Gain
returns-in-Gain c = search gain_answers

pub returns-in-Sum : goal.returns-in-Sum
returns-in-Sum c = search sum_answers

pub returns-in-Difference : goal.returns-in-Difference
returns-in-Difference c = search difference_answers
