-- `try_hex::line_length` meets its contract. The loop's invariant: the line has the i bytes passed and those that the rest's has.
-- Assumes nothing.
use Rattle.try_hex.proofs.Saying.{LineTo}
use Rattle.try_hex.proofs.line_length.Given as goal

abbrev pub invariant-loop-i : goal.invariant-loop-i
invariant-loop-i l = LineTo l.text l.i
