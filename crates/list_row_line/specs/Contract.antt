-- What writing the line of a row asks for, and the text behind its colon.
-- Main definitions: `held_pieces`, `RowFits`. Assumes nothing.
use Rattle.std.specs.Prelude.{List, ℕ, ◌+◌, ◌≤◌, length, ℤ}
use Rattle.rules_run.specs.Row.{COLUMNS}
use Rattle.rules_listing.specs.Line.{pieces, or_zero}
use Rattle.rules_listing.specs.Listing.{ROOM}
use Rattle.list_fractions.specs.Listable.{Listable, row_held}

-- the pieces of the row that the lists hold for term t, or the one piece `0`
abbrev pub held_pieces : (nums dens : List ℤ) → (t : ℕ) → List ℕ
held_pieces nums dens t = or_zero (pieces COLUMNS (row_held t nums dens))

-- The row can be listed, and there is room for every line at the place.
pub record RowFits (t : ℕ) (nums dens : List ℤ) (place : ℕ) (buffer : List ℕ) : Type 0 where
  pub listable : Listable t nums dens
  pub room : place + ROOM ≤ length buffer
