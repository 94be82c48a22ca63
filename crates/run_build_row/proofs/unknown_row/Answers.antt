-- `run_build_row::unknown_row` meets its contract: 1 stands alone in the row's own column. Assumes nothing.
use Rattle.run_build_row.proofs.Alone.{unknown_placed, unknown_stands}
use Rattle.run_build_row.proofs.unknown_row.Goals as goal

pub alone_row-requires : goal.alone_row-requires
alone_row-requires c = search unknown_placed

pub returns : goal.returns
returns c = search unknown_stands
