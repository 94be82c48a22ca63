-- A field whose bits are there is taken.
-- Main results: `piece_there`, `never_ended`, `value_at_lem`, `second_side`. Assume nothing.
use Rattle.std.specs.Prelude.{Option, Some, None, unwrap_or}
use mathlib.Core.Path.{◌≡◌, refl, ap, ◌∙◌}
use mathlib.Core.List.{List}
use Prim.Native.Nat.{ℕ, ◌+◌}
use borrow.Author.Tests.{le-leb}
use Rattle.rules_problem.specs.Bits.{field}
use Rattle.record_cursor.specs.declared.Piece.{Piece}
use Rattle.record_cursor.specs.Contract.{Readable, PieceRead}
use Rattle.record_cursor.specs.Taken.{taken_at}
use Rattle.rules_problem.proofs.Widths.{field_below}

taken_there : {bytes : List ℕ} {at width : ℕ} → Readable bytes at width → taken_at bytes at width ≡ Some (record { value = field bytes at width; next = record { at = at + width } })
unfolding taken_at
taken_there readable = rw (le-leb _ _ readable.there)

-- A field whose bits are there is taken, whatever stands in for one that is not.
pub piece_there : {bytes : List ℕ} {at width : ℕ} {taken : Option Piece} (past : Piece) {piece : Piece} → Readable bytes at width → taken ≡ taken_at bytes at width → piece ≡ unwrap_or taken past → PieceRead bytes at width piece
unfolding taken_at
piece_there {bytes} {at} {width} past readable takes is =
    rw (is, takes, le-leb _ _ readable.there) (record { value = refl; small = field_below bytes width at; after = refl })

-- The bits do not end before.
pub never_ended : {bytes : List ℕ} {at width : ℕ} → Readable bytes at width → {taken : Option Piece} → taken ≡ taken_at bytes at width → taken ≡ None → ⊥
never_ended {bytes} {at} {width} readable is ended =
    let there : taken_at bytes at width ≡ Some (record { value = field bytes at width; next = record { at = at + width } }) = taken_there readable in
    cc

-- A piece's value, by a position that equals the cursor's.
pub value_at_lem : {bytes : List ℕ} {p width : ℕ} {piece : Piece} (q : ℕ) → PieceRead bytes p width piece → p ≡ q → piece.value ≡ field bytes q width
value_at_lem {bytes} {p} {width} q next e = next.value ∙ ap (λ x. field bytes x width) e

-- The second of two fields of 8 bits.
pub second_side : {bytes : List ℕ} {p : ℕ} {left right : Piece} → PieceRead bytes p 8 left → PieceRead bytes left.next.at 8 right → right.value ≡ field bytes (p + 8) 8
second_side {p = p} left right = value_at_lem (p + 8) right left.after
