-- `try_hex::read` meets its contract. The loop's invariant: the first k bytes that the text says are written, and what the text says from place 2k on
-- is what is left. Assumes nothing.
use Rattle.std.proofs.Common.{arith}
use Rattle.try_hex.proofs.Saying.{read_nothing, reads_on, reads_no_more}
use Rattle.try_hex.proofs.read.Goals as goal

pub loop-k-init : goal.loop-k-init
loop-k-init c = read_nothing _ _

pub returns-in_default-clause-bytes : goal.returns-in_default-clause-bytes
returns-in_default-clause-bytes c = reads_no_more c.loop-k.invariant c.in_default.ensures

pub loop-k-preserved : goal.loop-k-preserved
loop-k-preserved c = reads_on c.loop-k.invariant c.in-Some.ensures (omega arith)
