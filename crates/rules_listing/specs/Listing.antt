-- The program's whole output, and one line of it put into a buffer: the line of a row from the lent lists, and an answer's first line.
-- Main definitions: `listing`, `ROOM`, `list_row`, `list_first`. Assumes nothing.
use Rattle.std.specs.Prelude.{Bool, true, ◌&&◌, cond, List, [], ◌∷◌, ◌++◌, ℕ, suc, ◌+◌, ◌*◌, length, take, drop, eqb, leb, ltb, ℤ, pos, nat_abs}
use Rattle.std.specs.Int.Signed.{le_z}
use Rattle.whole.specs.Gcd.{gcd}
use Rattle.answer.specs.declared.Reason.{Reason}
use Rattle.answer.specs.declared.Answer.{Answer}
use Rattle.answer.specs.declared.Refusal.{Refusal}
use Rattle.answer.specs.declared.Reason.TheVariants as reason
use Rattle.fraction.specs.Exact.{frac}
use Rattle.fraction.specs.Limits.{limit}
use Rattle.fraction.specs.Made.{Made, made}
use Rattle.rules_problem.specs.Problem.{refuse}
use Rattle.rules_run.specs.Row.{Row, Table, TERMS, COLUMNS, PLACES}
use Rattle.rules_run.specs.Run.{Ranking}
use Rattle.rules_outcome.specs.Outcome.{Decision, unread, cut_short, finished, decision, answered}
use Rattle.rules_listing.specs.Line.{first_line, row_line}

-- the lines of the rows from term t upward
unfoldable pub row_lines : (t : ℕ) → Table → List ℕ
row_lines t [] = []
row_lines t (r ∷ table) = row_line t r ++ row_lines (suc t) table

-- 01, The listing: "a first line"; "For entailed and not-entailed a line for each term below n follows"
unfoldable pub listed : Decision → List ℕ
listed (unread refusal) = first_line (answered (unread refusal))
listed (cut_short answer) = first_line answer
listed (finished answer table) = first_line answer ++ row_lines 0 table

-- "The program reads one problem from standard input (..) and writes": the text for a byte string
unfoldable pub listing : Ranking → (bytes : List ℕ) → List ℕ
listing ranking bytes = listed (decision ranking bytes)

-- "a fraction in lowest terms within the limits", of a numerator and a denominator as they stand in the lists
unfoldable pub is_fraction : (num den : ℤ) → Bool
is_fraction num den = le_z (pos 1) den && leb (nat_abs den) limit && leb (nat_abs num) limit && eqb (gcd (nat_abs num) (nat_abs den)) 1

unfoldable pub all_fractions : (numerators denominators : List ℤ) → Bool
all_fractions [] denominators = true
all_fractions (num ∷ numerators) [] = true
all_fractions (num ∷ numerators) (den ∷ denominators) = is_fraction num den && all_fractions numerators denominators

-- the 65 places of row t: "row t, column c stands at 65t + c"
unfoldable pub places_of : (t : ℕ) → List ℤ → List ℤ
places_of t list = take COLUMNS (drop (COLUMNS * t) list)

unfoldable pub held_row : (numerators denominators : List ℤ) → Row
held_row [] denominators = []
held_row (num ∷ numerators) [] = []
held_row (num ∷ numerators) (den ∷ denominators) = frac num (nat_abs den) ∷ held_row numerators denominators

-- the line of the row that the lists hold for term t
abbrev pub held_line : (numerators denominators : List ℤ) → (t : ℕ) → List ℕ
held_line numerators denominators t = row_line t (held_row (places_of t numerators) (places_of t denominators))

-- What listing leaves: "the new place reached, or on refusal the number and the old place", and the buffer.
pub record Listed : Type 0 where
  pub reached : Made Refusal ℕ
  pub buffer : List ℕ

-- a text put at a place of the buffer: "Bytes after the line stay."
unfoldable pub put_at : (place : ℕ) → (text buffer : List ℕ) → List ℕ
put_at place text buffer = take place buffer ++ text ++ drop (place + length text) buffer

-- a text that is listed at a place,
abbrev pub written_at : (place : ℕ) → (text buffer : List ℕ) → Listed
written_at place text buffer = record { reached = made (place + length text); buffer = put_at place text buffer }

-- and a refusal, which "leaves every lent list and buffer unchanged"
abbrev pub refused_at : (why : Reason) (place : ℕ) → (buffer : List ℕ) → Listed
refused_at why place buffer = record { reached = refuse why place; buffer = buffer }

-- 01, The listing: the bytes that have to follow the place reached, room for every line
abbrev pub ROOM : ℕ
ROOM = 2048

-- "With fewer than 2,048 bytes after the place reached, or from short lists, it is refused with 1; then a row number above
-- 63, or any place in that row that is not a fraction in lowest terms within the limits, with 8."
unfoldable pub list_row : (numerators denominators : List ℤ) → (t place : ℕ) → (buffer : List ℕ) → Listed
list_row numerators denominators t place buffer =
    cond (leb (place + ROOM) (length buffer) && leb PLACES (length numerators) && leb PLACES (length denominators))
    (cond (ltb t TERMS && all_fractions (places_of t numerators) (places_of t denominators))
    (written_at place (held_line numerators denominators t) buffer)
    (refused_at reason.Row place buffer))
    (refused_at reason.Space place buffer)

-- An answer's first line is refused as the line of a row is where there is no room. 01, What comes back: the place of refusal 1 is "0; the old
-- place when listing a row"; this is no row.
unfoldable pub list_first : Answer → (place : ℕ) → (buffer : List ℕ) → Listed
list_first answer place buffer =
    cond (leb (place + ROOM) (length buffer)) (written_at place (first_line answer) buffer) (refused_at reason.Space 0 buffer)
