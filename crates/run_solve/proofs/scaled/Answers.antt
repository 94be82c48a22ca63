-- `run_solve::scaled` meets its contract: times -1 is the opposite, times 1 the number itself, else it is the product. Assumes nothing.
use Rattle.run_solve.proofs.Cells.{scaled_minus, scaled_one}
use Rattle.run_solve.proofs.scaled.Goals as goal

pub returns-then-factor-eq4294967295 : goal.returns-then-factor-eq4294967295
returns-then-factor-eq4294967295 c = search scaled_minus

pub returns-then-factor-eq1-2 : goal.returns-then-factor-eq1-2
returns-then-factor-eq1-2 c = search scaled_one
