-- What a step that writes into the lists answers.
-- Main definition: `Step`. Assumes nothing.
use Rattle.std.specs.Prelude.{Result}
use Rattle.answer.specs.declared.Reason.{Reason}

-- It is done, or refused for a reason.
abbrev pub Step : Type 0
Step = Result (Unit {0}) Reason
