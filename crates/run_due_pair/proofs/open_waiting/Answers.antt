-- `run_due_pair::open_waiting` meets its contract. Assumes nothing.
use Rattle.run_table.specs.Sets.{open_of}
use Rattle.run_due_pair.proofs.open_waiting.Goals as goal

pub returns : goal.returns
unfolding open_of
returns c = record { inside = c.common.ensures }
