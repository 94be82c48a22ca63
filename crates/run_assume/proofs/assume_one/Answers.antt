-- `run_assume::assume_one` meets its contract. Assumes nothing.
use Rattle.run_assume.proofs.One.{assumes_placed}
use Rattle.run_assume.proofs.assume_one.Goals as goal

pub returns : goal.returns
returns c = search assumes_placed
