-- `try_reader::each_line` ends: the text left falls at each line. Assumes nothing.
use Rattle.std.specs.Prelude.{length, ⊤}
use Rattle.try_reader.proofs.each_line.Given as goal

abbrev pub invariant-loop-rest : goal.invariant-loop-rest
invariant-loop-rest g l = ⊤

abbrev pub decreases-loop-rest : goal.decreases-loop-rest
decreases-loop-rest g l = length l.rest
