-- `record_term::held_term` meets its contract: the fields that are read are those of the record.
-- Assumes nothing.
use Rattle.record_term.proofs.Judging.{held_some, held_is}
use Rattle.record_term.proofs.held_term.Goals as goal

pub returns : goal.returns
returns c = held_is c.args.own c.read_fields-held.ensures _ (λ n. rw c.unwrap.ensures at (c.kind_of.ensures n)) c.requires.faultless

pub unwrap-requires : goal.unwrap-requires
unwrap-requires c = held_some c.args.own c.read_fields-held.ensures _ c.kind_of.ensures c.requires.faultless
