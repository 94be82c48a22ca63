-- `record_items::term_at` meets its contract: a record of a problem that was read is not faulty, and holds its term.
-- Assumes nothing.
use Rattle.record_items.proofs.Holding.{record_held, term_answered}
use Rattle.record_items.proofs.term_at.Goals as goal

pub returns : goal.returns
returns c = search term_answered

pub held_term-requires : goal.held_term-requires
held_term-requires c = search record_held
