-- `run_finish::ones_from` meets its contract: the rows from n up to t hold 1. Assumes nothing.
use Rattle.rules_run.specs.Row.{COLUMNS}
use Rattle.run_fill.specs.Contract.{Filled}
use Rattle.std.proofs.Common.{◌*◌, pos}
use Rattle.run_finish.proofs.ones_from.Given as goal

abbrev pub invariant-loop-t : goal.invariant-loop-t
invariant-loop-t l = Filled (COLUMNS * l.n) (COLUMNS * l.t) (pos 1) l.initial.dens l.dens
