-- `fraction_inverse::negated` meets its contract: the opposite has the same size, so it is within the limits too.
-- Assumes nothing.
use mathlib.Core.Path.{◌∙◌}
use Rattle.std.proofs.Common.{arith}
use mir.Facts.{to_z-of_z}
use mir.Syntax.{w32}
use Rattle.fraction.specs.Limits.{limit}
use Rattle.fraction_reduce.proofs.Operations.{good_num, good_den, negated_is}
use Rattle.whole.proofs.Words.{kept}
use Rattle.fraction_inverse.proofs.negated.Goals as goal

pub returns : goal.returns
returns c = negated_is c.requires
    (kept w32 c.opposite.result c.opposite.type_inv ∙ (rw (to_z-of_z {w = w32} (good_num c.requires)) at c.opposite.ensures))
    (to_z-of_z {w = w32} (good_den c.requires))

pub opposite-requires : goal.opposite-requires
unfolding limit
opposite-requires c = rw (to_z-of_z {w = w32} (good_num c.requires)) (omega arith)
