-- `record_faults::first_faulty` meets its contract. The loop's invariant: the records passed are sound.
-- Assumes nothing.
use Rattle.record_faults.specs.Contract.{AllSound}
use Rattle.record_faults.specs.Faults.{sound_term}
use Rattle.record_faults.proofs.first_faulty.Given as goal

abbrev pub invariant-loop-t : goal.invariant-loop-t
invariant-loop-t l = AllSound 0 l.t (sound_term l.bytes)
