-- `try_hex::read` meets its contract. The loop's invariant: the first k bytes that the text says are written, and what the text says from place 2k on
-- is what is left. Assumes nothing.
use Rattle.try_hex.proofs.Saying.{ReadTo}
use Rattle.try_hex.proofs.read.Given as goal

abbrev pub invariant-loop-k : goal.invariant-loop-k
invariant-loop-k l = ReadTo l.text l.initial.bytes l.bytes l.k
