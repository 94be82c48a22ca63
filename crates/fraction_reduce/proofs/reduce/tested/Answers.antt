-- `fraction_reduce::reduce::tested` meets its contract: it tests the two numbers that the rule tests.
-- Assumes nothing.
use Rattle.std.proofs.Common.{arith}
use mir.Facts.{to_z-of_z}
use mir.Syntax.{w64}
use Rattle.fraction.specs.Limits.{limit}
use Rattle.fraction_reduce.proofs.Linked.{tested_fits}
use Rattle.fraction_reduce.proofs.reduce.tested.Goals as goal

pub returns : goal.returns
unfolding limit
returns c = tested_fits (omega arith) (omega arith) (rw (to_z-of_z {w = w64} c.ranges.like) at c.made.ensures)
