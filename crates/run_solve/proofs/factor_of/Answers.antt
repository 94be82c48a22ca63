-- `run_solve::factor_of` meets its contract: the inverse, negated. Assumes nothing.
use Rattle.run_solve.proofs.Cells.{factor_stands}
use Rattle.run_solve.proofs.factor_of.Goals as goal

pub returns : goal.returns
returns c = search factor_stands
