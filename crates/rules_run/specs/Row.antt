-- Rows of fractions, tables of rows, and when two rows are equal.
-- Main definitions: `TERMS`, `COLUMNS`, `PLACES`, `Row`, `Table`, `column`, `row_of`, `cell`, `row`, `same_row`. Assumes nothing.
use Rattle.std.specs.Prelude.{Bool, true, ◌&&◌, List, [], ℕ, zero, suc, get_or}
use Rattle.fraction.specs.Exact.{ℚ, zero_ℚ, eq_ℚ}
use Rattle.answer.specs.declared.Reason.{Reason}
use Rattle.fraction.specs.Made.{Made, tab}

-- 01, The run: "Each term has a row: a fraction for each term number (columns 0 to 63) and a constant (column 64)."
abbrev pub TERMS : ℕ
TERMS = 64

-- the column of the constant
abbrev pub constant : ℕ
constant = TERMS

abbrev pub COLUMNS : ℕ
COLUMNS = 65

-- 01, What comes back: "row t, column c stands at 65t + c, 4,160 places"
abbrev pub PLACES : ℕ
PLACES = 4160

abbrev pub Row : Type 0
Row = List ℚ

abbrev pub Table : Type 0
Table = List Row

unfoldable pub column : Row → (c : ℕ) → ℚ
column r c = get_or r c zero_ℚ

unfoldable pub row_of : Table → (t : ℕ) → Row
row_of table t = get_or table t []

unfoldable pub cell : Table → (t c : ℕ) → ℚ
cell table t c = column (row_of table t) c

-- the row whose columns, rising, are made by g
unfoldable pub row : (g : ℕ → Made Reason ℚ) → Made Reason Row
row g = tab COLUMNS 0 g

-- two rows have the same number in each of the first columns
unfoldable pub same_to : (columns : ℕ) → Row → Row → Bool
same_to zero r s = true
same_to (suc c) r s = eq_ℚ (column r c) (column s c) && same_to c r s

-- whether terms t and u have equal rows
unfoldable pub same_row : Table → (t u : ℕ) → Bool
same_row table t u = same_to COLUMNS (row_of table t) (row_of table u)
