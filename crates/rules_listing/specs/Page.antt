-- The whole listing of a decided problem put into a buffer: the first line and the lines of the rows, or a refusal and the buffer unchanged.
-- Main definitions: `rows_listed`, `page_text`, `list_page`, `PAGE`. Assumes nothing.
use Rattle.std.specs.Prelude.{Bool, true, ◌&&◌, cond, List, [], ◌++◌, ℕ, zero, suc, ◌+◌, ◌*◌, length, leb, ℤ}
use Rattle.answer.specs.declared.Answer.{Answer}
use Rattle.answer.specs.declared.Answer.TheVariants.{Entailed, NotEntailed, Contradictory, Refused}
use Rattle.answer.specs.declared.Reason.TheVariants as reason
use Rattle.rules_problem.specs.Bits.{field}
use Rattle.rules_run.specs.Row.{TERMS, PLACES}
use Rattle.rules_listing.specs.Line.{first_line}
use Rattle.rules_listing.specs.Listing.{all_fractions, places_of, held_line, Listed, written_at, refused_at, ROOM}

-- 01, The listing: "For entailed and not-entailed a line for each term below n follows"
unfoldable pub rows_listed : Answer → (n : ℕ) → ℕ
rows_listed (Entailed solved) n = n
rows_listed (NotEntailed solved) n = n
rows_listed (Contradictory place) n = 0
rows_listed (Refused number place) n = 0

module _ (numerators denominators : List ℤ) where
  -- the lines of the first rows
  unfoldable pub held_lines : (rows : ℕ) → List ℕ
  held_lines zero = []
  held_lines (suc t) = held_lines t ++ held_line numerators denominators t

  -- "writes a first line: (..). For entailed and not-entailed a line for each term below n follows"
  unfoldable pub page_text : Answer → (rows : ℕ) → List ℕ
  page_text answer rows = first_line answer ++ held_lines rows

  -- whether the lists are long enough to list rows from; the first line alone needs neither
  unfoldable pub long_for : (rows : ℕ) → Bool
  long_for zero = true
  long_for (suc t) = leb PLACES (length numerators) && leb PLACES (length denominators)

  -- whether each place of the first rows is a fraction in lowest terms within the limits
  unfoldable pub fraction_rows : (rows : ℕ) → Bool
  fraction_rows zero = true
  fraction_rows (suc t) = fraction_rows t && all_fractions (places_of t numerators) (places_of t denominators)

  -- All lines from the start of the buffer, or none of them. Each line is to have its 2,048 bytes from the start, and long lists, else
  -- the listing is refused with 1; then, if a row is listed whose number is above 63 or that has a place that is no fraction (..), with 8.
  -- The old place is the start, 0: a refusal leaves the buffer unchanged, so no line of it is listed.
  unfoldable pub list_rows : Answer → (rows : ℕ) → (buffer : List ℕ) → Listed
  list_rows answer rows buffer =
      cond (leb (ROOM * (rows + 1)) (length buffer) && long_for rows)
      (cond (leb rows TERMS && fraction_rows rows) (written_at 0 (page_text answer rows) buffer) (refused_at reason.Row 0 buffer))
      (refused_at reason.Space 0 buffer)

  -- The listing of a byte string that was decided so. 01, The problem record: "Header, 4 bytes: term count n (..)", the first 8 bits; a
  -- byte string without any has n = 0.
  unfoldable pub list_page : (bytes : List ℕ) → Answer → (buffer : List ℕ) → Listed
  list_page bytes answer buffer = list_rows answer (rows_listed answer (field bytes 0 8)) buffer

-- room for every listing: a first line and 64 rows
abbrev pub PAGE : ℕ
PAGE = ROOM * (TERMS + 1)
