-- The rules of the listing, computed at their boundaries: room for a line, the row numbers, a place that is no fraction in lowest terms, the
-- rows behind the last term of a table.
-- Main results: one for each boundary, by computing. Assume nothing.
use mathlib.Core.Path.{◌≡◌, refl}
use mathlib.Core.List.{List}
use Prim.Native.Nat.{ℕ}
use lib.ListN.{take, set, replicate}
use lib.IntN.{ℤ, pos}
use Rattle.whole.specs.Gcd.{gcd, euclid}
use Rattle.whole.specs.Signed.{signed}
use Rattle.answer.specs.declared.Answer.TheVariants.{Entailed}
use Rattle.answer.specs.declared.Reason.TheVariants as reason
use Rattle.answer.specs.Said.{said}
use Rattle.fraction.specs.Exact.{whole, zero_ℚ, frac, eq_ℤ, eq_ℚ}
use Rattle.fraction.specs.Limits.{limit}
use Rattle.fraction.specs.Made.{made}
use Rattle.rules_problem.specs.Problem.{refuse}
use Rattle.rules_run.specs.Row.{PLACES, column}
use Rattle.rules_listing.specs.Text.{ascii, digits, decimal}
use Rattle.rules_listing.specs.Line.{first_line, words_of, sign_of, fraction_text, term_text, piece, pieces, or_zero, row_line}
use Rattle.rules_listing.specs.Listing.{is_fraction, all_fractions, places_of, held_row, Listed, put_at, list_row, list_first}

-- listing one row, with every rule open
computed_row : (numerators denominators : List ℤ) → (t place : ℕ) → (buffer : List ℕ) → Listed
unfolding gcd euclid signed whole zero_ℚ frac eq_ℤ eq_ℚ limit refuse column ascii digits decimal sign_of fraction_text term_text piece pieces or_zero row_line is_fraction all_fractions places_of held_row put_at list_row
computed_row = list_row

-- lists of 4,160 places that hold 0 and 1, and a buffer of zeros
zeros : List ℤ
zeros = replicate PLACES (pos 0)

ones : List ℤ
ones = replicate PLACES (pos 1)

bytes : ℕ → List ℕ
bytes size = replicate size 0

-- "With fewer than 2,048 bytes after the place reached (..) it is refused with 1": with 2,047,
room_too_short : (computed_row zeros ones 0 1 (bytes 2048)).reached ≡ refuse reason.Space 1
unfolding computed_row zeros ones bytes
room_too_short = refl

-- and not with 2,048.
room_enough : (computed_row zeros ones 0 1 (bytes 2049)).reached ≡ made 6
unfolding computed_row zeros ones bytes
room_enough = refl

-- "a row number above 63": row 63 is listed, row 64 refused with 8 at the old place, and nothing is written then.
row_63 : (computed_row zeros ones 63 1 (bytes 2049)).reached ≡ made 7
unfolding computed_row zeros ones bytes
row_63 = refl

row_64 : computed_row zeros ones 64 1 (bytes 2049) ≡ record { reached = refuse reason.Row 1; buffer = bytes 2049 }
unfolding computed_row zeros ones bytes
row_64 = refl

-- "any place in that row that is not a fraction in lowest terms": 0/2 in column 3 of row 1 is none. Row 0 beside it is listed.
not_lowest : computed_row zeros (set ones 68 (pos 2)) 1 5 (bytes 2053) ≡ record { reached = refuse reason.Row 5; buffer = bytes 2053 }
unfolding computed_row zeros ones bytes
not_lowest = refl

row_beside : (computed_row zeros (set ones 68 (pos 2)) 0 5 (bytes 2053)).reached ≡ made 10
unfolding computed_row zeros ones bytes
row_beside = refl

-- A first line without room is refused with 1 at place 0, also where the place reached is another; with 2,048 bytes it is written.
first_too_short : list_first (Entailed 1) 7 (bytes 2054) ≡ record { reached = refuse reason.Space 0; buffer = bytes 2054 }
unfolding list_first bytes
first_too_short = refl

first_enough : (list_first (Entailed 1) 7 (bytes 2055)).reached ≡ made 20
unfolding list_first bytes first_line words_of said ascii digits decimal
first_enough = refl

-- the first bytes of the buffer after row t of one variable's table is listed: 1 in column 0 of row 0, and 0/1 at all other places
text_of : (t length : ℕ) → List ℕ
unfolding computed_row
text_of t length = take length (computed_row (set zeros 0 (pos 1)) ones t 0 (bytes 2048)).buffer

-- Row 0 is the variable's; "rows n to 63 all 0/1", here 1 and 63, are listed as `t: 0`.
rows_listed_lem : (text_of 0 9 ≡ ascii "0: +1*t0\n") × (text_of 1 5 ≡ ascii "1: 0\n") × (text_of 63 6 ≡ ascii "63: 0\n")
unfolding text_of zeros ones bytes ascii
rows_listed_lem = (refl, refl, refl)
