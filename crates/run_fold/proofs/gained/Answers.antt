-- `run_fold::gained` meets its contract: where the coefficient is 1 the sum with the form's number; else the product, then the sum.
-- Assumes nothing.
use mathlib.Core.Path.{refl}
use Rattle.fraction_reduce.proofs.Answered.{fits_good}
use Rattle.run_fold.proofs.Cells.{gained_one, gained_product, gained_refused}
use Rattle.run_fold.proofs.gained.Goals as goal

pub returns-then-k-eq1-2 : goal.returns-then-k-eq1-2
returns-then-k-eq1-2 c = search gained_one

pub sum-requires-2-clause-b_good : goal.sum-requires-2-clause-b_good
sum-requires-2-clause-b_good c = fits_good c.in_ok-f.ensures refl

pub returns : goal.returns
returns c = search (gained_product, c.in_ok-f.ensures)

pub returns-in_err-f : goal.returns-in_err-f
returns-in_err-f c = search (gained_refused, c.in_err-f.ensures)
