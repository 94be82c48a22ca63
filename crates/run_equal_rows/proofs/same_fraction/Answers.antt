-- `run_equal_rows::same_fraction` meets its contract. Assumes nothing.
use Rattle.run_equal_rows.proofs.Equal.{equal_numbers, unequal_nums, unequal_dens}
use Rattle.run_equal_rows.proofs.same_fraction.Goals as goal

pub returns-then-a-b-2 : goal.returns-then-a-b-2
returns-then-a-b-2 c = search equal_numbers

pub returns-else-a-b-2 : goal.returns-else-a-b-2
returns-else-a-b-2 c = search unequal_dens

pub returns-else-a-b : goal.returns-else-a-b
returns-else-a-b c = search unequal_nums
