-- The whole listing in a buffer that has room for it, as the rule of the page lays it down: the first line alone, or with the lines of a table
-- that the outcome has laid out in both lists.
-- Main results: `put`, `first_alone`, `first_then_rows`. Assume nothing.
use mathlib.Core.Path.{◌≡◌, refl, sym, ap, ◌∙◌}
use mathlib.Core.Bool.{true}
use mathlib.Core.List.{List, [], ◌++◌, append-nil, append_assoc}
use Prim.Native.Nat.{ℕ, zero, suc, ◌+◌, ◌*◌, ◌≤◌, ◌<◌}
use native.Mathlib.Omega.{arith}
use borrow.Author.Tests.{le-leb}
use lib.ListN.{length, drop, drop_of_length-le}
use lib.Seq.{drop-cons}
use lib.IntN.{ℤ}
use Rattle.answer.specs.declared.Answer.{Answer}
use Rattle.rules_run.specs.Row.{Table, TERMS, row_of, PLACES}
use Rattle.rules_listing.specs.Line.{first_line}
use Rattle.rules_listing.specs.Listing.{row_lines, Listed, written_at, held_line, ROOM}
use Rattle.rules_listing.specs.Page.{rows_listed, held_lines, page_text, long_for, fraction_rows, list_rows, PAGE}
use Rattle.list_fractions.specs.Listable.{Listable}
use Rattle.laws_invariant.proofs.Limits.{Limited}
use Rattle.agree.proofs.Rows.{numerators_of, denominators_of, row_listable, row_line_lem}

-- what is left where a text is put at a place
unfoldable pub put : (text : List ℕ) → (place : ℕ) → (buffer : List ℕ) → Listed
put text place buffer = written_at place text buffer

-- Without rows the listing is the first line.
pub first_alone : (nums dens : List ℤ) (answer : Answer) (n : ℕ) (buffer : List ℕ) → rows_listed answer n ≡ 0 → ROOM ≤ length buffer → list_rows nums dens answer (rows_listed answer n) buffer ≡ put (first_line answer) 0 buffer
unfolding list_rows long_for fraction_rows page_text held_lines put
first_alone nums dens answer n buffer none room = rw (none, le-leb ROOM (length buffer) room, append-nil)

module _ (table : Table) (numerators denominators : List ℤ) (limited : Limited table) (first : PLACES ≤ length numerators) (second : PLACES ≤ length denominators) (few : length table ≤ TERMS) where
  abbrev nums : List ℤ
  nums = numerators_of table numerators

  abbrev dens : List ℤ
  dens = denominators_of table denominators

  -- The lists are long and each row passes the test.
  listable : (t : ℕ) → t < TERMS → Listable t nums dens
  listable t term = row_listable table numerators denominators limited first second t term

  long : (rows : ℕ) → long_for nums dens rows ≡ true
  unfolding long_for
  long zero = refl
  long (suc t) = let held = (listable 0 (omega arith)).long in rw (le-leb _ _ held.nums_long, le-leb _ _ held.dens_long)

  fractions : (rows : ℕ) → rows ≤ TERMS → fraction_rows nums dens rows ≡ true
  unfolding fraction_rows
  fractions zero all = refl
  fractions (suc t) all = rw (fractions t (omega arith), (listable t all).sound)

  -- The lines of the rows that the lists hold, and then those of the table, are those of the table.
  lines_to : (t : ℕ) → t ≤ length table → held_lines nums dens t ++ row_lines t (drop t table) ≡ row_lines 0 table
  unfolding held_lines row_lines row_of
  lines_to zero all = refl
  lines_to (suc t) all =
      append_assoc (held_lines nums dens t) (held_line nums dens t) (row_lines (suc t) (drop (suc t) table))
      ∙ ap (λ line. held_lines nums dens t ++ (line ++ row_lines (suc t) (drop (suc t) table))) (row_line_lem table numerators denominators limited first second t (omega arith))
      ∙ ap (λ rows. held_lines nums dens t ++ row_lines t rows) (sym (drop-cons table t [] all))
      ∙ lines_to t (omega arith)

  lines : held_lines nums dens (length table) ≡ row_lines 0 table
  unfolding row_lines
  lines =
      let none : length table ≤ length table = omega arith in
      sym (append-nil (held_lines nums dens (length table)))
      ∙ ap (λ rows. held_lines nums dens (length table) ++ row_lines (length table) rows) (sym (drop_of_length-le table none))
      ∙ lines_to (length table) (omega arith)

  -- With a row for each term of the table it is the first line and theirs: 65 lines at most.
  pub first_then_rows : (answer : Answer) (n : ℕ) (buffer : List ℕ) → rows_listed answer n ≡ length table → PAGE ≤ length buffer → list_rows nums dens answer (rows_listed answer n) buffer ≡ put (first_line answer ++ row_lines 0 table) 0 buffer
  unfolding list_rows page_text put
  first_then_rows answer n buffer all room =
      let roomy : ROOM * (length table + 1) ≤ length buffer = omega arith in
      rw (all, le-leb _ _ roomy, long (length table), le-leb _ _ few, fractions (length table) few, lines)
