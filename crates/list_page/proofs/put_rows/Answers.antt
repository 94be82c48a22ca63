-- `list_page::put_rows` meets its contract. The loop's invariant: the lines of the rows below t are written. Assumes nothing.
use Rattle.list_page.proofs.Rows.{line_ready, lines_more}
use Rattle.list_page.proofs.put_rows.Goals as goal

pub put_row-end-requires : goal.put_row-end-requires
put_row-end-requires c = search line_ready

pub loop-t-preserved : goal.loop-t-preserved
loop-t-preserved c = search lines_more
