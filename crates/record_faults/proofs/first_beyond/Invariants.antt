-- `record_faults::first_beyond` meets its contract. The loop's invariant: the pairs passed have terms for sides.
-- Assumes nothing.
use Rattle.record_faults.specs.Contract.{AllSound}
use Rattle.record_faults.specs.Faults.{sound_pair}
use Rattle.record_faults.proofs.first_beyond.Given as goal

abbrev pub invariant-loop-k : goal.invariant-loop-k
invariant-loop-k l = AllSound 1 l.k (sound_pair l.bytes l.n)
