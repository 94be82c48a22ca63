-- `run_equal_rows::differ_at` meets its contract. Assumes nothing.
use borrow.Author.Tests.{eq-eqb}
use mathlib.Core.Path.{ap}
use mathlib.Core.Bool.{not}
use mir.Syntax.{w32}
use mir.Val.{of_z}
use Rattle.run_equal_rows.proofs.differ_at.Goals as goal

pub returns : goal.returns
returns c = λ same. ap not (eq-eqb _ _ (ap (of_z w32) same))
