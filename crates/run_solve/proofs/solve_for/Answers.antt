-- `run_solve::solve_for` meets its contract: 0 is stored in the column of the unknown, and the others are multiplied in a loop. Assumes nothing.
use Rattle.std.proofs.Common.{arith}
use Rattle.run_solve.proofs.Forms.{form_reads, form_asks, form_made}
use Rattle.run_solve.proofs.solve_for.Goals as goal

pub returns : goal.returns
returns c = search form_made

pub factor_of-factor-requires : goal.factor_of-factor-requires
factor_of-factor-requires c = search (form_reads, arith)

pub scale_columns-requires : goal.scale_columns-requires
scale_columns-requires c = search form_asks
