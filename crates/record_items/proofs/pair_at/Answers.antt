-- `record_items::pair_at` meets its contract: a pair that is held lies within the bytes.
-- Assumes nothing.
use Rattle.std.proofs.Common.{arith}
use Rattle.record_items.proofs.Holding.{pair_within}
use Rattle.record_items.proofs.pair_at.Goals as goal

pub overflow_mul-start : goal.overflow_mul-start
overflow_mul-start c = omega (arith, pair_within c.requires)

pub overflow_add-start : goal.overflow_add-start
overflow_add-start c = omega (arith, pair_within c.requires)

pub overflow_mul-start-2 : goal.overflow_mul-start-2
overflow_mul-start-2 c = omega (arith, pair_within c.requires)

pub overflow_add-start-2 : goal.overflow_add-start-2
overflow_add-start-2 c = omega (arith, pair_within c.requires)

pub read-left-requires : goal.read-left-requires
read-left-requires c = let (few, least, most, there) = pair_within c.requires in
    record { takeable = record { narrow = omega arith; room = omega arith }; there = omega arith }

pub read-right-requires : goal.read-right-requires
read-right-requires c = let (few, least, most, there) = pair_within c.requires in
    record { takeable = record { narrow = omega arith; room = omega arith }; there = omega arith }
