-- The lent lists of a function in code, as the rules speak of them.
-- Main definitions: `lent_of`, `comes_back`. Assume nothing.
use Rattle.std.specs.Prelude.{List, ℤ}
use Rattle.answer.specs.declared.Answer.{Answer}
use Rattle.rules_outcome.specs.Outcome.{Lent, Outcome}

-- Of lists that a function writes into, `lent_of nums.old dens.old` is what they hold when it begins, `lent_of nums.new dens.new` when it is over.
abbrev pub lent_of : (numerators denominators : List ℤ) → Lent
lent_of numerators denominators = record { numerators = numerators; denominators = denominators }

-- the answer, and the lists that are left with it
abbrev pub comes_back : Answer → Lent → Outcome
comes_back answer left = record { answer = answer; left = left }
