-- `run_progress::placed` meets its contract. Assumes nothing.
use Rattle.std.proofs.Common.{arith}
use Rattle.run_progress.specs.Ran.{ended}
use Rattle.run_progress.proofs.Going.{placed_ends}
use Rattle.run_progress.proofs.placed.Goals as goal

pub returns : goal.returns
unfolding ended
returns c = placed_ends c.args.closing c.requires (λ count is. grind arith) (λ is. grind arith) (λ number is. grind arith)
