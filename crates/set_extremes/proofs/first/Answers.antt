-- `set_extremes::first` meets its contract: the empty set has none. Assumes nothing.
use Rattle.std.proofs.Common.{arith}
use Rattle.set_extremes.proofs.Onward.{first_none}
use Rattle.set_extremes.proofs.first.Goals as goal

pub returns : goal.returns
returns c = first_none (omega arith)
