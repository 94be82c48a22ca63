-- The lines of a listing: the first line of an answer, and the line of a row.
-- Main definitions: `first_line`, `row_line`. Assumes nothing.
use Rattle.std.specs.Prelude.{cond, List, [], ◌∷◌, ◌++◌, ℕ, zero, suc, eqb, ℤ, pos, negsuc, nat_abs}
use Rattle.answer.specs.declared.Answer.{Answer}
use Rattle.answer.specs.Said.{Word, entailed, not_entailed, contradictory, refused, said}
use Rattle.fraction.specs.Exact.{ℚ, zero_ℚ, eq_ℚ}
use Rattle.rules_run.specs.Row.{Row, COLUMNS, constant, column}
use Rattle.rules_listing.specs.Text.{ascii, decimal}

-- 01, The listing: "a first line: word, place, count, or `refused`, number, place"
unfoldable pub words_of : Word → (place count : ℕ) → List ℕ
words_of entailed place count = ascii "entailed " ++ decimal place ++ ascii " " ++ decimal count
words_of not_entailed place count = ascii "not-entailed " ++ decimal place ++ ascii " " ++ decimal count
words_of contradictory place count = ascii "contradictory " ++ decimal place ++ ascii " " ++ decimal count
words_of (refused number) place count = ascii "refused " ++ decimal number ++ ascii " " ++ decimal place

-- "Lines end in a newline."
unfoldable pub first_line : Answer → List ℕ
first_line answer = words_of (said answer).word (said answer).place (said answer).count ++ ascii "\n"

-- "a sign"
unfoldable pub sign_of : ℤ → List ℕ
sign_of (pos n) = ascii "+"
sign_of (negsuc n) = ascii "-"

-- "the fraction (no denominator if 1)"
unfoldable pub fraction_text : ℚ → List ℕ
fraction_text q = decimal (nat_abs q.num) ++ cond (eqb q.den 1) [] (ascii "/" ++ decimal q.den)

-- "`*t` with the term number; the constant comes last without `*t`"
unfoldable pub term_text : (c : ℕ) → List ℕ
term_text c = cond (eqb c constant) [] (ascii "*t" ++ decimal c)

-- "A piece stands for a nonzero column (..): a sign, the fraction (..) and `*t` with the term number", "a blank before each piece"
unfoldable pub piece : (c : ℕ) → ℚ → List ℕ
piece c q = cond (eq_ℚ q zero_ℚ) [] (ascii " " ++ sign_of q.num ++ fraction_text q ++ term_text c)

-- "columns rising": the pieces of the first columns
unfoldable pub pieces : (columns : ℕ) → Row → List ℕ
pieces zero r = []
pieces (suc c) r = pieces c r ++ piece c (column r c)

-- "a row of zeros is the one piece `0`"
unfoldable pub or_zero : List ℕ → List ℕ
or_zero [] = ascii " 0"
or_zero (x ∷ rest) = x ∷ rest

-- "a line for each term below n follows: its number, a colon, then a blank before each piece"
unfoldable pub row_line : (t : ℕ) → Row → List ℕ
row_line t r = decimal t ++ ascii ":" ++ or_zero (pieces COLUMNS r) ++ ascii "\n"
