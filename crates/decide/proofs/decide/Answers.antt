-- `decide::decide` meets its contract. Assumes nothing.
use Rattle.std.proofs.Common.{arith}
use Rattle.decide.proofs.Whole.{decided_sound, decided_unread}
use Rattle.decide.proofs.decide.Goals as goal

pub returns-in-Ok : goal.returns-in-Ok
returns-in-Ok c = decided_sound (record { numerators = omega arith; denominators = omega arith }) c.decide_sound.ensures

pub returns-in-Err : goal.returns-in-Err
returns-in-Err c = decided_unread (omega arith) (omega arith) c.read_problem.ensures c.in-Err.is c.into-in-Err.ensures
