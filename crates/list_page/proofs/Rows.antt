-- The rows of a page, tested and then written one after the other.
-- Main results: `row_held_lem`, `fails_more`; `line_ready`, `lines_more`. Assume nothing.
use mathlib.Core.Path.{◌≡◌}
use mathlib.Core.Bool.{true, false}
use mathlib.Core.List.{List}
use Prim.Native.Nat.{ℕ, zero, suc, ◌+◌, ◌≤◌, ◌<◌}
use native.Mathlib.Decide.{dec_lt}
use native.Mathlib.Numerals.{add-one}
use native.Mathlib.Omega.{arith}
use lib.Dec.{leb}
use lib.ListN.{length}
use lib.IntN.{ℤ}
use borrow.Author.Tests.{leb-true}
use Rattle.std.proofs.lemmas.Bool.{false_from_ne_true}
use Rattle.rules_run.specs.Row.{PLACES}
use Rattle.rules_listing.specs.Listing.{all_fractions, places_of, held_line}
use Rattle.rules_listing.specs.Page.{held_lines, long_for, fraction_rows}
use Rattle.list_text.specs.Wrote.{Wrote}
use Rattle.list_text.proofs.Placing.{wrote_then}
use Rattle.list_fractions.specs.Listable.{HoldRow, Listable, row_held}
use Rattle.list_fractions.proofs.Fractions.{and_true}
use Rattle.list_pieces.proofs.Rows.{row_within}
use Rattle.list_row_line.specs.Contract.{RowFits}
use Rattle.list_row_line.proofs.Lines.{row_line_length}
use Rattle.list_page.specs.Contract.{RowsLent, RowsFit, RowsWritten}

-- Where a row is listed both lists are long.
long_lists : (rows : ℕ) (nums dens : List ℤ) {t : ℕ} → t < rows → long_for nums dens rows ≡ true → (PLACES ≤ length nums) × (PLACES ≤ length dens)
unfolding long_for
long_lists zero nums dens early long = absurd (omega arith)
long_lists (suc rows) nums dens early long =
    let (first, second) = and_true (leb PLACES (length nums)) (leb PLACES (length dens)) long in
    (leb-true PLACES (length nums) first, leb-true PLACES (length dens) second)

pub row_held_lem : {rows t : ℕ} {nums dens : List ℤ} → RowsLent rows nums dens → t < rows → HoldRow t nums dens
row_held_lem {rows} {nums = nums} {dens} lent early =
    let (first, second) = long_lists rows nums dens early lent.long in
    record { term = omega (arith, lent.few); nums_long = first; dens_long = second }

-- Of rows that pass each passes,
each_passes : (nums dens : List ℤ) (rows t : ℕ) → t < rows → fraction_rows nums dens rows ≡ true → all_fractions (places_of t nums) (places_of t dens) ≡ true
unfolding fraction_rows
each_passes nums dens zero t early passes = absurd (omega arith)
each_passes nums dens (suc last) t early passes =
    let (before, own) = and_true (fraction_rows nums dens last) (all_fractions (places_of last nums) (places_of last dens)) passes in
    by (dec_lt t last) (λ earlier. each_passes nums dens last t earlier before) own
  where
    by : Dec (t < last) → (t < last → all_fractions (places_of t nums) (places_of t dens) ≡ true) → all_fractions (places_of last nums) (places_of last dens) ≡ true → all_fractions (places_of t nums) (places_of t dens) ≡ true
    by (yes earlier) before own = before earlier
    by (no late) before own = let same : t ≡ last = omega arith in rw same own

-- so a row that fails fails every test of more rows.
pub fails_more : (nums dens : List ℤ) (rows t : ℕ) → t < rows → all_fractions (places_of t nums) (places_of t dens) ≡ false → fraction_rows nums dens rows ≡ false
fails_more nums dens rows t early fails = false_from_ne_true _ (λ passes. let own = each_passes nums dens rows t early passes in cc)

-- Behind the lines of the rows below t there is room for the next, and with it the lines of one row more are written.
module _ {rows t : ℕ} {nums dens : List ℤ} {place end : ℕ} {before after : List ℕ} (ready : RowsFit rows nums dens place before) (to : RowsWritten t nums dens place before after end) (early : t < rows) where
  listable : Listable t nums dens
  listable = record { long = row_held_lem ready.lent early; sound = each_passes nums dens rows t early ready.sound }

  pub line_ready : length after ≡ length before → RowFits t nums dens end after
  line_ready size = record { listable = listable; room = omega (arith, to.short, size, ready.room) }

  pub lines_more : {after' : List ℕ} {end' : ℕ} → Wrote (held_line nums dens t) end after after' end' → RowsWritten (t + 1) nums dens place before after' end'
  unfolding held_lines
  lines_more line =
      let short = row_line_length t (row_held t nums dens) listable.long.term (row_within t nums dens listable) in
      let start : place ≤ length before = omega (arith, ready.room) in
      record { wrote = rw add-one (wrote_then start to.wrote line); short = omega (arith, to.short, line.reached) }
