-- `fraction_product::product_whole` meets its contract: times 1 is the fraction, times -1 its opposite.
-- Assumes nothing.
use Rattle.fraction_product.proofs.Multiplied.{first_one, first_minus}
use Rattle.fraction_product.proofs.product_whole.Goals as goal

pub returns-then-a-eq1 : goal.returns-then-a-eq1
returns-then-a-eq1 c = search first_one

pub returns-then-a-eq4294967295 : goal.returns-then-a-eq4294967295
returns-then-a-eq4294967295 c = search first_minus
