-- The pieces written part by part: what is written is the piece, and in the end the pieces of the row.
-- Main results: `wrote_over`, `wrote_term`, `piece_room`, `wrote_piece`, `piece_ready`, `pieces_more`. Assume nothing.
use mathlib.Core.Path.{◌≡◌, sym, ap, ◌∙◌}
use mathlib.Core.List.{List, [], ◌∷◌, ◌++◌}
use Prim.Native.Nat.{ℕ, ◌+◌, ◌*◌, ◌≤◌, ◌<◌}
use native.Mathlib.Numerals.{add-one}
use native.Mathlib.Omega.{arith}
use lib.ListN.{length, get_or, length-append}
use lib.IntN.{ℤ, pos, nat_abs}
use mir.Syntax.{w32}
use mir.Val.{SFits, to_z, of_z}
use mir.Facts.{to_z-of_z}
use Rattle.rules_run.specs.Row.{COLUMNS, constant}
use Rattle.rules_listing.specs.Text.{ascii, decimal}
use Rattle.rules_listing.specs.Line.{sign_of, term_text, pieces}
use Rattle.list_text.specs.Wrote.{Fits, Wrote}
use Rattle.list_text.proofs.Placing.{wrote_nothing, wrote_then}
use Rattle.list_fractions.specs.Listable.{row_held}
use Rattle.list_fractions.proofs.Fractions.{Shown, fraction_is}
use Rattle.list_pieces.specs.Contract.{over_text, piece_of, PieceFits, PiecesFit}
use Rattle.list_pieces.proofs.Texts.{over_more, term_of_column, piece_of_zero, piece_of_parts, sign_length}
use Rattle.list_pieces.proofs.Rows.{row_sound, row_pieces_step, row_piece_length, row_pieces_length}

-- "the fraction (no denominator if 1)"
pub wrote_over : (top bottom : ℕ) {place p₁ p₂ next : ℕ} {before b₁ b₂ after : List ℕ} → Fits (over_text top bottom) place before → (bottom ≡ 1 → ⊥)
    → Wrote (decimal top) place before b₁ p₁
    → Wrote (47 ∷ []) p₁ b₁ b₂ p₂
    → Wrote (decimal bottom) p₂ b₂ after next
    → Wrote (over_text top bottom) place before after next
unfolding ascii
wrote_over top bottom {place} {before = before} fits more above slash below =
    let within : place ≤ length before = omega (arith, fits.room) in
    rw (over_more top bottom more) (wrote_then within (wrote_then within above slash) below)

-- "`*t` with the term number; the constant comes last without `*t`"
pub wrote_term : (c : ℕ) {place p₁ next : ℕ} {before b₁ after : List ℕ} → Fits (term_text c) place before → (c ≡ constant → ⊥)
    → Wrote (42 ∷ 116 ∷ []) place before b₁ p₁
    → Wrote (decimal c) p₁ b₁ after next
    → Wrote (term_text c) place before after next
unfolding ascii
wrote_term c {place} {before = before} fits other mark number =
    let within : place ≤ length before = omega (arith, fits.room) in
    rw (term_of_column c other) (wrote_then within mark number)

-- "A piece stands for a nonzero column": a blank, a sign, the fraction and the term
module _ {c : ℕ} {num den : ℤ} {place : ℕ} {before : List ℕ} (ready : PieceFits c num den place before) {top : ℕ} (own : SFits w32 num) (top_is : top ≡ nat_abs (to_z w32 (of_z w32 num))) where
  shown : Shown num den
  shown = fraction_is num den ready.sound

  size_is : top ≡ nat_abs num
  size_is = top_is ∙ ap nat_abs (to_z-of_z own)

  pub wrote_none : top ≡ 0 → Wrote (piece_of c num den) place before before place
  wrote_none zero = rw (piece_of_zero c num den shown (sym size_is ∙ zero)) (wrote_nothing place before)

  module _ (some : top ≡ 0 → ⊥) where
    parts : piece_of c num den ≡ ascii " " ++ sign_of num ++ over_text top (nat_abs den) ++ term_text c
    parts = rw size_is (piece_of_parts c num den shown (λ none. some (size_is ∙ none)))

    pub piece_room : place + 2 + length (over_text top (nat_abs den)) + length (term_text c) ≤ length before
    unfolding ascii
    piece_room = omega (arith, ready.fits.room, simp length-append at (ap length parts), sign_length num)

    module _ {bottom : ℕ} (other : SFits w32 den) (bottom_is : bottom ≡ nat_abs (to_z w32 (of_z w32 den))) where
      pub over_room : place + 2 + length (over_text top bottom) + length (term_text c) ≤ length before
      over_room = rw (bottom_is, to_z-of_z {w = w32} other) piece_room

      pub wrote_piece : {s p₁ p₂ p₃ next : ℕ} {b₁ b₂ b₃ after : List ℕ} → s ∷ [] ≡ sign_of (to_z w32 (of_z w32 num))
          → Wrote (32 ∷ []) place before b₁ p₁
          → Wrote (s ∷ []) p₁ b₁ b₂ p₂
          → Wrote (over_text top bottom) p₂ b₂ b₃ p₃
          → Wrote (term_text c) p₃ b₃ after next
          → Wrote (piece_of c num den) place before after next
      unfolding ascii
      wrote_piece sign_is blank sign over term =
          let within : place ≤ length before = omega (arith, piece_room) in
          let signed = rw (sign_is, to_z-of_z {w = w32} own) at sign in
          let overed = rw (bottom_is, to_z-of_z {w = w32} other) at over in
          rw parts (wrote_then within (wrote_then within (wrote_then within blank signed) overed) term)

-- "columns rising": behind the pieces of the columns below c there is room for the next, and with it one column more is written.
module _ (t : ℕ) (nums dens : List ℤ) (c : ℕ) {place next : ℕ} {before after : List ℕ} (ready : PiecesFit t nums dens place before) (to : Wrote (pieces c (row_held t nums dens)) place before after next) (more : c < COLUMNS) {num den : ℤ} (num-is : num ≡ get_or nums (COLUMNS * t + c) (pos 0)) (den_is : den ≡ get_or dens (COLUMNS * t + c) (pos 0)) where
  pub piece_ready : length after ≡ length before → PieceFits c num den next after
  piece_ready size =
      let before-it = row_pieces_length t nums dens ready.listable c (omega arith) in
      let own = row_piece_length t nums dens ready.listable c more in
      record {
        sound = rw (num-is, den_is) (row_sound t nums dens ready.listable c more);
        fits = rw (num-is, den_is) (record { room = omega (arith, ready.room, size, to.reached, before-it, own) });
      }

  pub pieces_more : {after' : List ℕ} {next' : ℕ} → Wrote (piece_of c num den) next after after' next' → Wrote (pieces (c + 1) (row_held t nums dens)) place before after' next'
  pieces_more wrote =
      let within : place ≤ length before = omega (arith, ready.room) in
      rw (add-one, row_pieces_step t nums dens ready.listable c more) (wrote_then within to (rw (num-is, den_is) at wrote))
