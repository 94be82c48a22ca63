-- The rows of a table within the limits, as the outcome lays them out in both lists: each can be listed, and its line is the table's.
-- Main results: `row_listable`, `row_line_lem`. Assume nothing.
use mathlib.Core.Path.{◌≡◌, refl, ap, ap₂, ◌∙◌}
use mathlib.Core.Bool.{true}
use mathlib.Core.List.{List, [], ◌∷◌, ◌++◌}
use Prim.Native.Nat.{ℕ, zero, suc, ◌+◌, ◌*◌, ◌≤◌, ◌<◌}
use native.Mathlib.Omega.{arith}
use borrow.Author.Tests.{le-leb, eq-eqb}
use lib.ListN.{length, get_or}
use lib.IntN.{ℤ, pos, nat_abs}
use Rattle.whole.specs.Gcd.{gcd}
use Rattle.fraction.specs.Exact.{ℚ, frac}
use Rattle.fraction.specs.Limits.{limit, within}
use Rattle.fraction.proofs.Bounded.{within_limits}
use Rattle.fraction_reduce.proofs.Lowest.{ℚ-same, lowest_num, lowest_den}
use Rattle.rules_run.specs.Row.{Table, TERMS, COLUMNS, row_of, cell, PLACES}
use Rattle.rules_outcome.specs.Outcome.{laid_out}
use Rattle.rules_outcome.proofs.Laid.{overwritten_length}
use Rattle.rules_outcome.proofs.Cells.{laid_out_at}
use Rattle.rules_listing.specs.Text.{ascii, decimal}
use Rattle.rules_listing.specs.Line.{piece, pieces, or_zero, row_line}
use Rattle.rules_listing.specs.Listing.{is_fraction, all_fractions, places_of}
use Rattle.list_fractions.specs.Listable.{Listable, row_held}
use Rattle.list_fractions.proofs.Places.{places_length, places_at}
use Rattle.list_pieces.proofs.Rows.{row_pieces_step}
use Rattle.laws_invariant.proofs.Limits.{Limited}

-- A fraction within the limits passes the test of a place,
fraction_passes : (q : ℚ) → within q ≡ true → is_fraction q.num (pos q.den) ≡ true
unfolding is_fraction
fraction_passes q inside =
    let (above, below) = (within_limits q).0 inside in
    rw (le-leb 1 q.den q.positive, le-leb q.den limit below, le-leb (nat_abs q.num) limit above, eq-eqb (gcd (nat_abs q.num) q.den) 1 q.lowest)

-- and is the fraction of its own two numbers.
fraction_of_own : (q : ℚ) → frac q.num q.den ≡ q
fraction_of_own q = ℚ-same (lowest_num q.num q.den q.positive q.lowest) (lowest_den q.num q.den q.positive q.lowest)

-- Places that pass one by one pass together.
all_pass : (nums dens : List ℤ) → ((c : ℕ) → c < length nums → is_fraction (get_or nums c (pos 0)) (get_or dens c (pos 0)) ≡ true) → all_fractions nums dens ≡ true
unfolding all_fractions
all_pass [] dens each = refl
all_pass (num ∷ nums) [] each = refl
all_pass (num ∷ nums) (den ∷ dens) each = rw (each 0 (omega arith), all_pass nums dens (λ c below. each (suc c) (omega arith)))

-- the lists as the outcome of a finished run leaves them
abbrev pub numerators_of : Table → List ℤ → List ℤ
numerators_of table list = laid_out (λ t c. (cell table t c).num) list

abbrev pub denominators_of : Table → List ℤ → List ℤ
denominators_of table list = laid_out (λ t c. pos (cell table t c).den) list

laid_length : (g : (t c : ℕ) → ℤ) (list : List ℤ) → length (laid_out g list) ≡ length list
unfolding laid_out
laid_length g list = overwritten_length PLACES _ list

module _ (table : Table) (numerators denominators : List ℤ) (limited : Limited table) (first : PLACES ≤ length numerators) (second : PLACES ≤ length denominators) (t : ℕ) (term : t < TERMS) where
  abbrev nums : List ℤ
  nums = numerators_of table numerators

  abbrev dens : List ℤ
  dens = denominators_of table denominators

  nums_long : PLACES ≤ length nums
  nums_long = rw (laid_length (λ t c. (cell table t c).num) numerators) first

  dens_long : PLACES ≤ length dens
  dens_long = rw (laid_length (λ t c. pos (cell table t c).den) denominators) second

  module _ (c : ℕ) (below : c < COLUMNS) where
    num_at : get_or nums (COLUMNS * t + c) (pos 0) ≡ (cell table t c).num
    num_at = laid_out_at (λ t c. (cell table t c).num) numerators t c first term below

    den_at : get_or dens (COLUMNS * t + c) (pos 0) ≡ pos (cell table t c).den
    den_at = laid_out_at (λ t c. pos (cell table t c).den) denominators t c second term below

    place_passes : is_fraction (get_or (places_of t nums) c (pos 0)) (get_or (places_of t dens) c (pos 0)) ≡ true
    place_passes =
        ap₂ is_fraction (places_at t c nums below ∙ num_at) (places_at t c dens below ∙ den_at) ∙ fraction_passes (cell table t c) (limited.each t c below)

  pub row_listable : Listable t nums dens
  row_listable =
      record {
        long = record { term = term; nums_long = nums_long; dens_long = dens_long };
        sound = all_pass (places_of t nums) (places_of t dens) (λ c below. place_passes c (omega (arith, places_length t nums term nums_long)));
      }

  same_pieces : (columns : ℕ) → columns ≤ COLUMNS → pieces columns (row_held t nums dens) ≡ pieces columns (row_of table t)
  unfolding pieces cell
  same_pieces zero all = refl
  same_pieces (suc c) all =
      row_pieces_step t nums dens row_listable c all
      ∙ ap₂ ◌++◌ (same_pieces c (omega arith)) (ap (piece c) (ap₂ (λ n d. frac n (nat_abs d)) (num_at c all) (den_at c all) ∙ fraction_of_own (cell table t c)))

  -- The line of the row that the lists hold is that of the table's row.
  pub row_line_lem : row_line t (row_held t nums dens) ≡ row_line t (row_of table t)
  unfolding row_line
  row_line_lem = ap (λ text. decimal t ++ ascii ":" ++ or_zero text ++ ascii "\n") (same_pieces COLUMNS (omega arith))
