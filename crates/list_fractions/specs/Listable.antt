-- Rows that can be listed.
-- Main definitions: `HoldRow`, `Listable`, `row_held`. Assumes nothing.
use Rattle.std.specs.Prelude.{◌≡◌, true, List, ℕ, ◌≤◌, ◌<◌, length, ℤ}
use Rattle.rules_run.specs.Row.{Row, TERMS, PLACES}
use Rattle.rules_listing.specs.Listing.{all_fractions, places_of, held_row}

-- both lists hold row t
pub record HoldRow (t : ℕ) (nums dens : List ℤ) : Type 0 where
  pub term : t < TERMS
  pub nums_long : PLACES ≤ length nums
  pub dens_long : PLACES ≤ length dens

-- and each place of it is a fraction in lowest terms within the limits
pub record Listable (t : ℕ) (nums dens : List ℤ) : Type 0 where
  pub long : HoldRow t nums dens
  pub sound : all_fractions (places_of t nums) (places_of t dens) ≡ true

-- the row that the lists hold for term t
abbrev pub row_held : (t : ℕ) → (nums dens : List ℤ) → Row
row_held t nums dens = held_row (places_of t nums) (places_of t dens)
