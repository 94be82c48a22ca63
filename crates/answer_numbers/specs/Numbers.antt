-- An answer in numbers.
-- Main definition: `numbers_of`. Assumes nothing.
use Rattle.answer.specs.declared.Answer.{Answer}
use Rattle.answer.specs.declared.Answer.TheVariants.{Entailed, NotEntailed, Contradictory, Refused}
use Rattle.answer_numbers.specs.declared.Numbers.{Numbers}

-- 0 to 3 for entailed, not-entailed, contradictory and refused; a refusal's number; the count of the first two, the place of the others
unfoldable pub numbers_of : Answer → Numbers
numbers_of (Entailed solved) = record { word = 0; number = 0; figure = solved }
numbers_of (NotEntailed solved) = record { word = 1; number = 0; figure = solved }
numbers_of (Contradictory place) = record { word = 2; number = 0; figure = place }
numbers_of (Refused number place) = record { word = 3; number = number; figure = place }
