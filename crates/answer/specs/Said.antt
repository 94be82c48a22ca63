-- What each case of the answer says in the words and numbers of document 01.
-- Main definitions: `Word`, `Said`, `said`. Assumes nothing.
use Rattle.std.specs.Prelude.{ℕ}
use Rattle.answer.specs.declared.Answer.{Answer}
use Rattle.answer.specs.declared.Answer.TheVariants.{Entailed, NotEntailed, Contradictory, Refused}

-- 01, What comes back, the outcomes; a refusal's word carries its number
pub data Word : Type 0 where
  entailed not_entailed contradictory : Word
  refused : (number : ℕ) → Word

-- 01: "An answer has a word, a place and a count of solved unknowns."
pub record Said : Type 0 where
  pub word : Word
  pub place : ℕ
  pub count : ℕ

-- 01: place 0 for entailed and not-entailed; "The count is 0 for contradictory and every refusal."
unfoldable pub said : Answer → Said
said (Entailed solved) = record { word = entailed; place = 0; count = solved }
said (NotEntailed solved) = record { word = not_entailed; place = 0; count = solved }
said (Contradictory place) = record { word = contradictory; place = place; count = 0 }
said (Refused number place) = record { word = refused number; place = place; count = 0 }
