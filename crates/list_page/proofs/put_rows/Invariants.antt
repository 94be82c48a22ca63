-- `list_page::put_rows` meets its contract. The loop's invariant: the lines of the rows below t are written. Assumes nothing.
use Rattle.list_page.specs.Contract.{RowsWritten}
use Rattle.list_page.proofs.put_rows.Given as goal

abbrev pub invariant-loop-t : goal.invariant-loop-t
invariant-loop-t l = RowsWritten l.t l.nums l.dens l.at l.initial.buf l.buf l.end
