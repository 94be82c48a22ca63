-- The lines by their parts, how long they can be, and that they are written part by part.
-- Main results: `row_line_length`, `wrote_zero`, `wrote_some`, `number_short`, `pieces_short`, `wrote_row`. Assume nothing.
use mathlib.Core.Path.{◌≡◌, refl}
use mathlib.Core.Bool.{true}
use mathlib.Core.List.{List, [], ◌∷◌, ◌++◌}
use Prim.Native.Nat.{ℕ, ◌≤◌, ◌<◌}
use native.Mathlib.Omega.{arith}
use lib.ListN.{length, length-append}
use lib.IntN.{ℤ}
use Rattle.fraction.specs.Limits.{within}
use Rattle.rules_run.specs.Row.{Row, TERMS, COLUMNS, column}
use Rattle.rules_listing.specs.Text.{ascii, decimal}
use Rattle.rules_listing.specs.Line.{pieces, or_zero, row_line}
use Rattle.rules_listing.specs.Listing.{held_line}
use Rattle.list_text.specs.Wrote.{Wrote}
use Rattle.list_text.proofs.Placing.{wrote_then}
use Rattle.list_decimal.proofs.Decimal.{decimal_length}
use Rattle.list_fractions.specs.Listable.{Listable, row_held}
use Rattle.list_pieces.specs.Contract.{PIECES, PiecesFit}
use Rattle.list_pieces.proofs.Texts.{pieces_length}
use Rattle.list_pieces.proofs.Rows.{row_pieces_length}
use Rattle.list_row_line.specs.Contract.{held_pieces, RowFits}

or_zero_none : (text : List ℕ) → length text ≡ 0 → or_zero text ≡ text ++ ascii " 0"
unfolding or_zero
or_zero_none [] none = refl
or_zero_none (x ∷ text) none = absurd (omega arith)

or_zero_some : (text : List ℕ) → (length text ≡ 0 → ⊥) → or_zero text ≡ text
unfolding or_zero
or_zero_some [] some = absurd (some refl)
or_zero_some (x ∷ text) some = refl

or_zero_length : (text : List ℕ) (n : ℕ) → 2 ≤ n → length text ≤ n → length (or_zero text) ≤ n
unfolding or_zero ascii
or_zero_length [] n two fits = two
or_zero_length (x ∷ text) n two fits = fits

-- The line of a row within the limits takes at most 1,759 bytes: two digits, a colon, 65 pieces of 27 and a newline. So 2,048 are room enough.
pub row_line_length : (t : ℕ) (r : Row) → t < TERMS → ((c : ℕ) → c < COLUMNS → within (column r c) ≡ true) → length (row_line t r) ≤ 1759
unfolding row_line ascii
row_line_length t r term each =
    simp length-append
    (omega (arith, decimal_length 1 t (omega arith), or_zero_length (pieces COLUMNS r) PIECES (omega arith) (pieces_length r COLUMNS (omega arith) each)))

-- A row without pieces has the one piece `0`; any other has its own.
module _ (t : ℕ) (nums dens : List ℤ) {place next : ℕ} {before between : List ℕ} (wrote : Wrote (pieces COLUMNS (row_held t nums dens)) place before between next) where
  pub wrote_zero : PiecesFit t nums dens place before → {after : List ℕ} {end : ℕ} → next ≡ place → Wrote (32 ∷ 48 ∷ []) place between after end → Wrote (held_pieces nums dens t) place before after end
  unfolding ascii
  wrote_zero ready none zero =
      let within : place ≤ length before = omega (arith, ready.room) in
      let empty : length (pieces COLUMNS (row_held t nums dens)) ≡ 0 = omega (arith, wrote.reached) in
      rw (or_zero_none _ empty) (wrote_then within (rw none at wrote) zero)

  pub wrote_some : (next ≡ place → ⊥) → Wrote (held_pieces nums dens t) place before between next
  wrote_some some = rw (or_zero_some (pieces COLUMNS (row_held t nums dens)) (λ none. some (omega (arith, wrote.reached)))) wrote

-- The line: the number, a colon, the pieces, a newline.
pub number_short : (t : ℕ) → t < TERMS → length (decimal t) ≤ 2
number_short t term = decimal_length 1 t (omega arith)

pub pieces_short : (nums dens : List ℤ) (t : ℕ) → Listable t nums dens → length (held_pieces nums dens t) ≤ PIECES
pieces_short nums dens t listable = or_zero_length (pieces COLUMNS (row_held t nums dens)) PIECES (omega arith) (row_pieces_length t nums dens listable COLUMNS (omega arith))

module _ {t : ℕ} {nums dens : List ℤ} {place : ℕ} {before : List ℕ} (ready : RowFits t nums dens place before) where
  pub wrote_row : {p₁ p₂ p₃ next : ℕ} {b₁ b₂ b₃ after : List ℕ} → Wrote (decimal t) place before b₁ p₁
      → Wrote (58 ∷ []) p₁ b₁ b₂ p₂
      → Wrote (held_pieces nums dens t) p₂ b₂ b₃ p₃
      → Wrote (10 ∷ []) p₃ b₃ after next
      → Wrote (held_line nums dens t) place before after next
  unfolding row_line ascii
  wrote_row number colon held newline =
      let within : place ≤ length before = omega (arith, ready.room) in
      wrote_then within (wrote_then within (wrote_then within number colon) held) newline
