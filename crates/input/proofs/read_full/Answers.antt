-- `input::read_full` meets its contract. The loop's invariant: what was read stands at the buffer's start. It ends: the room left falls at each turn.
-- Assumes nothing.
use Rattle.std.proofs.Common.{rules}
use Rattle.input.proofs.Filling.{consumes_more}
use Rattle.input.proofs.read_full.Goals as goal

pub loop-done-preserved : goal.loop-done-preserved
loop-done-preserved g c =
    record { within = search rules; bytes = consumes_more _ _ _ _ _ _ _ _ c.loop-done.invariant.bytes c.in_ok-got.ensures.bytes.0 c.loop-done.invariant.within c.in_ok-got.ensures.bound.0 }
