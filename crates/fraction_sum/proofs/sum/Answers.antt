-- `fraction_sum::sum` meets its contract: zero and a fraction make the fraction, in either order.
-- Assumes nothing.
use Rattle.fraction_sum.proofs.Summed.{first_zero, second_zero}
use Rattle.fraction_sum.proofs.sum.Goals as goal

pub returns-then-a-eq0 : goal.returns-then-a-eq0
returns-then-a-eq0 c = search first_zero

pub returns-then-b-eq0 : goal.returns-then-b-eq0
returns-then-b-eq0 c = search second_zero
