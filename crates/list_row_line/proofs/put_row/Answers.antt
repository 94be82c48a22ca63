-- `list_row_line::put_row` meets its contract. Assumes nothing.
use Rattle.list_row_line.proofs.Lines.{wrote_row}
use Rattle.list_row_line.proofs.put_row.Goals as goal

pub returns : goal.returns
returns c = search wrote_row
