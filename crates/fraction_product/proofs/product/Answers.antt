-- `fraction_product::product` meets its contract: zero times anything is zero.
-- Assumes nothing.
use Rattle.fraction_product.proofs.Multiplied.{first_zero, second_zero}
use Rattle.fraction_product.proofs.product.Goals as goal

pub returns-then-a-eq0 : goal.returns-then-a-eq0
returns-then-a-eq0 c = search first_zero

pub returns-then-b-eq0 : goal.returns-then-b-eq0
returns-then-b-eq0 c = search second_zero
