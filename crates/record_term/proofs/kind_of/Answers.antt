-- `record_term::kind_of` meets its contract: a constant has the value that its fields say. Assumes nothing.
use Rattle.rules_problem.specs.Record.{every, unless_faulty, kind_of}
use Rattle.record_fields.specs.Contract.{fields_of}
use Rattle.record_term.specs.Terms.{all_zeros, below}
use Rattle.record_term.specs.Uses.{inputs_of, unused, fits, sound_kind, judged}
use Rattle.record_term.proofs.kind_of.Goals as goal

pub returns-in-2 : goal.returns-in-2
unfolding judged sound_kind fits unused inputs_of all_zeros below every unless_faulty kind_of fields_of
returns-in-2 c = λ own. rw (c.scaled_of.ensures, c.in-2.is)
