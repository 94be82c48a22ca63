-- `record_term::read_term` meets its contract: a record whose kind is sound holds the term of that kind.
-- Assumes nothing.
use mathlib.Core.Path.{◌∙◌}
use Rattle.record_term.proofs.Judging.{read_none, read_sound, read_unsound}
use Rattle.record_term.proofs.read_term.Goals as goal

pub returns-in_err-kind : goal.returns-in_err-kind
returns-in_err-kind c = c.from_residual.ensures ∙ read_none c.args.own c.read_fields-f.ensures c.in_err-kind.ensures

pub returns-then-is_sound : goal.returns-then-is_sound
returns-then-is_sound c = read_sound c.args.own c.read_fields-f.ensures _ c.in_ok-kind.ensures c.if-is_sound.ensures

pub returns-else-is_sound : goal.returns-else-is_sound
returns-else-is_sound c = read_unsound c.args.own c.read_fields-f.ensures _ c.in_ok-kind.ensures c.if-is_sound.ensures
