-- What the rules answer to a byte string, with every rule open so that it computes.
-- Main definition: `computed_answer`. Assumes nothing.
use Rattle.std.specs.Prelude.{List, ℕ}
use Rattle.answer.specs.Refusals.{number_of}
use Rattle.answer.specs.Said.{Said, said}
use Rattle.rules_problem.specs.Bits.{bit_at, field, signed16}
use Rattle.rules_problem.specs.Record.{fields_at, scaled, every, unless_faulty, kind_of}
use Rattle.rules_problem.specs.Problem.{refuse, term_at, pair_at, need, decoded}
use Rattle.rules_run.specs.Run.{highest_number}
use Rattle.rules_run.specs.Computed.{computed_run}
use Rattle.rules_outcome.specs.Outcome.{decision, answered, after_reading, after_run}

-- the answer in the words of document 01
unfoldable pub computed_answer : List ℕ → Said
unfolding
    computed_run
    decision
    answered
    after_reading
    after_run
    number_of
    refuse
    term_at
    pair_at
    need
    decoded
    fields_at
    scaled
    every
    unless_faulty
    kind_of
    bit_at
    field
    signed16
    said
computed_answer bytes = said (answered (decision highest_number bytes))
