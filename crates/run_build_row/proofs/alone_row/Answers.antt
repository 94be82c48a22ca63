-- `run_build_row::alone_row` meets its contract: one place of a blank row is stored. Assumes nothing.
use Rattle.run_build_row.proofs.Alone.{alone_stands}
use Rattle.run_build_row.proofs.alone_row.Goals as goal

pub returns : goal.returns
returns c = search alone_stands
