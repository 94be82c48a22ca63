-- What writing the pieces of a row asks for, and the text of a fraction by its two sizes.
-- Main definitions: `over_text`, `piece_of`, `PieceFits`, `pieces_of`, `PIECES`, `PiecesFit`. Assumes nothing.
use Rattle.std.specs.Prelude.{◌≡◌, true, cond, List, [], ◌++◌, ℕ, ◌+◌, ◌*◌, ◌≤◌, eqb, length, ℤ, nat_abs}
use Rattle.fraction.specs.Exact.{frac}
use Rattle.rules_run.specs.Row.{COLUMNS}
use Rattle.rules_listing.specs.Text.{ascii, decimal}
use Rattle.rules_listing.specs.Line.{piece, pieces}
use Rattle.rules_listing.specs.Listing.{is_fraction}
use Rattle.list_text.specs.Wrote.{Fits}
use Rattle.list_fractions.specs.Listable.{Listable, row_held}

-- "the fraction (no denominator if 1)", of its two sizes
unfoldable pub over_text : (top bottom : ℕ) → List ℕ
over_text top bottom = decimal top ++ cond (eqb bottom 1) [] (ascii "/" ++ decimal bottom)

-- the piece of a column, by the two numbers that stand there
abbrev pub piece_of : (c : ℕ) → (num den : ℤ) → List ℕ
piece_of c num den = piece c (frac num (nat_abs den))

-- A column to be written: the numbers are a fraction in lowest terms within the limits, and there is room for its piece.
pub record PieceFits (c : ℕ) (num den : ℤ) (place : ℕ) (buffer : List ℕ) : Type 0 where
  pub sound : is_fraction num den ≡ true
  pub fits : Fits (piece_of c num den) place buffer

-- the pieces of the row that the lists hold for term t, without the one piece `0`
abbrev pub pieces_of : (nums dens : List ℤ) → (t : ℕ) → List ℕ
pieces_of nums dens t = pieces COLUMNS (row_held t nums dens)

-- room for the pieces of every row: 27 bytes a column
abbrev pub PIECES : ℕ
PIECES = 27 * COLUMNS

-- A row whose pieces are to be written: it can be listed, and there is room for them.
pub record PiecesFit (t : ℕ) (nums dens : List ℤ) (place : ℕ) (buffer : List ℕ) : Type 0 where
  pub listable : Listable t nums dens
  pub room : place + PIECES ≤ length buffer
