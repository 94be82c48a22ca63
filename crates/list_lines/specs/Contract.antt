-- What listing a line promises, in the rules' terms.
-- Main definitions: `reached_of`, `listed_by`, `place_of`, `number_of`, `ListsRow`, `ListsFirst`. Assumes nothing.
use Rattle.std.specs.Prelude.{◌≡◌, Result, Ok, Err, List, ℕ, ℤ}
use Rattle.answer.specs.Refusals.{number_of as number_of_reason}
use Rattle.answer.specs.declared.Answer.{Answer}
use Rattle.answer.specs.declared.Refusal.{Refusal}
use Rattle.fraction.specs.Made.{Made, made, stopped}
use Rattle.rules_listing.specs.Listing.{Listed, list_row, list_first}

-- 01, The listing: "the new place reached, or on refusal the number and the old place"
unfoldable pub reached_of : Result ℕ Refusal → Made Refusal ℕ
reached_of (Ok place) = made place
reached_of (Err why) = stopped why

-- the answer, and the buffer as it is then
unfoldable pub listed_by : Result ℕ Refusal → (buffer : List ℕ) → Listed
listed_by answer buffer = record { reached = reached_of answer; buffer = buffer }

-- the place that is answered, and 0 or the number of the refusal
unfoldable pub place_of : Result ℕ Refusal → ℕ
place_of (Ok place) = place
place_of (Err why) = why.place

unfoldable pub number_of : Result ℕ Refusal → ℕ
number_of (Ok place) = 0
number_of (Err why) = number_of_reason why.reason

-- Row t is listed at a place of the buffer by the rule, or refused by it,
pub record ListsRow (nums dens : List ℤ) (t place : ℕ) (before after : List ℕ) (r : Result ℕ Refusal) : Type 0 where
  pub answers : listed_by r after ≡ list_row nums dens t place before

-- and so is an answer's first line.
pub record ListsFirst (answer : Answer) (place : ℕ) (before after : List ℕ) (r : Result ℕ Refusal) : Type 0 where
  pub answers : listed_by r after ≡ list_first answer place before
