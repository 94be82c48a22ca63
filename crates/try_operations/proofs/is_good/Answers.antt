-- `try_operations::is_good` meets its contract. Assumes nothing.
use mir.Facts.{to_z-of_z}
use mir.Syntax.{w32}
use mir.Val.{SFits}
use mathlib.Core.Path.{sym, ◌∙◌}
use Rattle.try_operations.proofs.Tested.{tested_good}
use Rattle.std.proofs.Common.{rules}
use Rattle.try_operations.proofs.is_good.Goals as goal

pub returns : goal.returns
returns c passed =
    let num-fits : SFits w32 c.args.f.num = search rules in
    let den-fits : SFits w32 c.args.f.den = search rules in
    tested_good c.args.f (sym (rw (to_z-of_z num-fits, to_z-of_z den-fits) at c.is_fraction.ensures) ∙ passed)
