-- What the exported functions promise.
-- Main definitions: `Handed`, `RowHanded`. Assumes nothing.
use Rattle.std.specs.Prelude.{◌≡◌, List, ℕ, ℤ, Result}
use Rattle.answer.specs.declared.Answer.{Answer}
use Rattle.answer.specs.declared.Refusal.{Refusal}
use Rattle.run_finish.specs.Lent.{lent_of, comes_back}
use Rattle.decide.specs.Decided.{Decided}
use Rattle.list_lines.specs.Contract.{place_of, number_of, ListsRow}
use Rattle.answer_numbers.specs.declared.Numbers.{Numbers}
use Rattle.answer_numbers.specs.Numbers.{numbers_of}

-- the numbers that are handed back: the word answered, and the two numbers behind the references
abbrev pub handed : (word number figure : ℕ) → Numbers
handed word number figure = record { word = word; number = number; figure = figure }

-- What is handed back are the numbers of an answer that `decide` promises, with both lists as it leaves them.
pub record Handed (bytes : List ℕ) (nums dens nums' dens' : List ℤ) (numbers : Numbers) : Type 0 where
  pub answer : Answer
  pub tells : numbers_of answer ≡ numbers
  pub decided : Decided bytes (lent_of nums dens) (comes_back answer (lent_of nums' dens'))

-- What is handed back, a place and 0 or the number of a refusal, are those of an answer that `list_row_at` promises, with the buffer as it
-- leaves it.
pub record RowHanded (nums dens : List ℤ) (t at : ℕ) (before after : List ℕ) (place number : ℕ) : Type 0 where
  pub reached : Result ℕ Refusal
  pub tells_place : place_of reached ≡ place
  pub tells_number : number_of reached ≡ number
  pub lists : ListsRow nums dens t at before after reached
