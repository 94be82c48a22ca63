-- `fraction_reduce::reduce::reduced` meets its contract: to test two numbers in lowest terms is to test their fraction.
-- Assumes nothing.
use Rattle.fraction_reduce.proofs.Linked.{reduced_lowest}
use Rattle.fraction_reduce.proofs.reduce.reduced.Goals as goal

pub returns : goal.returns
returns c = reduced_lowest c.ranges.n c.size_wide-size.ensures c.requires.positive c.lowest.ensures c.tested-2.ensures
