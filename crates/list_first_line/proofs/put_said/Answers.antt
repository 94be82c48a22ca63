-- `list_first_line::put_said` meets its contract. Assumes nothing.
use Rattle.list_first_line.proofs.Lines.{wrote_said}
use Rattle.list_first_line.proofs.put_said.Goals as goal

pub returns : goal.returns
returns c =
    let small = c.ranges.first.fits in
    let small' = c.ranges.second.fits in
    search wrote_said
