-- `list_row_line::put_or_zero` meets its contract. Assumes nothing.
use Rattle.list_row_line.proofs.Lines.{wrote_zero, wrote_some}
use Rattle.list_row_line.proofs.put_or_zero.Goals as goal

pub returns-then-end-at : goal.returns-then-end-at
returns-then-end-at c = search wrote_zero

pub returns : goal.returns
returns c = search wrote_some
