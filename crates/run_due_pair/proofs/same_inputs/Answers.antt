-- `run_due_pair::same_inputs` meets its contract. Assumes nothing.
use Rattle.std.proofs.Common.{rules}
use Rattle.std.proofs.iter.runs.Sources.{ranges}
use Rattle.run_due_pair.specs.Found.{same_inputs}
use Rattle.run_due_pair.proofs.same_inputs.Goals as goal

pub returns : goal.returns
unfolding same_inputs
returns c = search (rules, ranges)
