-- `run_build_row::factor_of` meets its contract: only a constant and a gain hold a fraction. Assumes nothing.
use Rattle.run_build_row.proofs.Lowering.{no_factor}
use Rattle.run_build_row.proofs.factor_of.Goals as goal

pub returns-in_default : goal.returns-in_default
returns-in_default c = no_factor c.args.kind c.in_default.not-Constant c.in_default.not-Gain
