-- What writing an answer's first line asks for and ensures, and the text of a first line by its parts.
-- Main definitions: `said_text`, `NUMBERS`, `SaidFits`, `SaidWritten`, `FirstFits`, `FirstWritten`. Assumes nothing.
use Rattle.std.specs.Prelude.{List, ◌++◌, ℕ, ◌+◌, ◌≤◌, length}
use Rattle.answer.specs.declared.Answer.{Answer}
use Rattle.rules_listing.specs.Text.{ascii, decimal}
use Rattle.rules_listing.specs.Line.{first_line}
use Rattle.rules_listing.specs.Listing.{ROOM}
use Rattle.list_text.specs.Wrote.{Wrote}

-- "word, place, count, or `refused`, number, place": a word with its blank, two numbers, and the newline
abbrev pub said_text : (word : List ℕ) → (first second : ℕ) → List ℕ
said_text word first second = word ++ decimal first ++ ascii " " ++ decimal second ++ ascii "\n"

-- two numbers of at most twenty digits, a blank and a newline
abbrev pub NUMBERS : ℕ
NUMBERS = 42

-- There is room for the word and two numbers.
pub record SaidFits (word : List ℕ) (place : ℕ) (buffer : List ℕ) : Type 0 where
  pub room : place + length word + NUMBERS ≤ length buffer

-- The line stands at the place, and is no longer than that.
pub record SaidWritten (word : List ℕ) (first second place : ℕ) (before after : List ℕ) (next : ℕ) : Type 0 where
  pub wrote : Wrote (said_text word first second) place before after next
  pub short : next ≤ place + length word + NUMBERS

-- There is room for every line.
pub record FirstFits (place : ℕ) (buffer : List ℕ) : Type 0 where
  pub room : place + ROOM ≤ length buffer

-- The answer's first line stands at the place, and is no longer than that.
pub record FirstWritten (answer : Answer) (place : ℕ) (before after : List ℕ) (next : ℕ) : Type 0 where
  pub wrote : Wrote (first_line answer) place before after next
  pub short : next ≤ place + ROOM
