-- A row that can be listed: its columns, and how long their pieces are.
-- Main results: `row_sound`, `row_within`, `row_pieces_step`, `row_pieces_length`. Assume nothing.
use mathlib.Core.Path.{◌≡◌, sym, ap, ap₂, ◌∙◌}
use mathlib.Core.Bool.{true}
use mathlib.Core.List.{List, ◌++◌}
use Prim.Native.Nat.{ℕ, suc, ◌+◌, ◌*◌, ◌≤◌, ◌<◌}
use native.Mathlib.Omega.{arith}
use lib.ListN.{length, get_or}
use lib.IntN.{ℤ, pos, nat_abs}
use Rattle.fraction.specs.Exact.{frac}
use Rattle.fraction.specs.Limits.{within}
use Rattle.rules_run.specs.Row.{COLUMNS, column}
use Rattle.rules_listing.specs.Line.{piece, pieces}
use Rattle.rules_listing.specs.Listing.{is_fraction, places_of}
use Rattle.list_fractions.specs.Listable.{Listable, row_held}
use Rattle.list_fractions.proofs.Fractions.{fraction_is}
use Rattle.list_fractions.proofs.Places.{places_length, places_at, held_column, all_at}
use Rattle.list_pieces.proofs.Texts.{shown_within, piece_length, pieces_length}

module _ (t : ℕ) (nums dens : List ℤ) (listable : Listable t nums dens) where
  nums_length : length (places_of t nums) ≡ COLUMNS
  nums_length = places_length t nums listable.long.term listable.long.nums_long

  dens_length : length (places_of t dens) ≡ COLUMNS
  dens_length = places_length t dens listable.long.term listable.long.dens_long

  module _ (c : ℕ) (below : c < COLUMNS) where
    -- Each column is a fraction in lowest terms within the limits,
    pub row_sound : is_fraction (get_or nums (COLUMNS * t + c) (pos 0)) (get_or dens (COLUMNS * t + c) (pos 0)) ≡ true
    row_sound =
        ap₂ is_fraction (sym (places_at t c nums below)) (sym (places_at t c dens below))
        ∙ all_at (places_of t nums) (places_of t dens) c (omega (arith, nums_length)) (omega (arith, dens_length)) listable.sound

    -- the one at its place,
    row_column : column (row_held t nums dens) c ≡ frac (get_or nums (COLUMNS * t + c) (pos 0)) (nat_abs (get_or dens (COLUMNS * t + c) (pos 0)))
    row_column =
        held_column (places_of t nums) (places_of t dens) c (omega (arith, nums_length)) (omega (arith, dens_length))
        ∙ ap₂ (λ n d. frac n (nat_abs d)) (places_at t c nums below) (places_at t c dens below)

    -- and has its piece behind those of the columns before it.
    pub row_pieces_step : pieces (suc c) (row_held t nums dens) ≡ pieces c (row_held t nums dens) ++ piece c (frac (get_or nums (COLUMNS * t + c) (pos 0)) (nat_abs (get_or dens (COLUMNS * t + c) (pos 0))))
    unfolding pieces
    row_pieces_step = ap (λ q. pieces c (row_held t nums dens) ++ piece c q) row_column

    pub row_within : within (column (row_held t nums dens) c) ≡ true
    row_within = ap within row_column ∙ shown_within _ _ (fraction_is _ _ row_sound)

    pub row_piece_length : length (piece c (frac (get_or nums (COLUMNS * t + c) (pos 0)) (nat_abs (get_or dens (COLUMNS * t + c) (pos 0))))) ≤ 27
    row_piece_length = piece_length c _ (shown_within _ _ (fraction_is _ _ row_sound)) (omega arith)

  -- The pieces of the first columns take at most 27 bytes each.
  pub row_pieces_length : (columns : ℕ) → columns ≤ COLUMNS → length (pieces columns (row_held t nums dens)) ≤ 27 * columns
  row_pieces_length columns within-columns = pieces_length (row_held t nums dens) columns (omega arith) (λ c below. row_within c (omega arith))
