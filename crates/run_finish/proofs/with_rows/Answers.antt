-- `run_finish::with_rows` meets its contract. Assumes nothing.
use Rattle.run_finish.proofs.Left.{finishes_entailed, finishes_not_entailed}
use Rattle.run_finish.proofs.with_rows.Goals as goal

pub returns-then-same : goal.returns-then-same
returns-then-same c = search finishes_entailed

pub returns-else-same : goal.returns-else-same
returns-else-same c = search finishes_not_entailed
