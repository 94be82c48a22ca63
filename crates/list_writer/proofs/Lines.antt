-- A listing made by one writer: line by line, what stands before the place reached is the page that the rules lay down.
-- Main results: `first_of_page`, `next_of_page`, `two_lines`. Assume nothing.
use mathlib.Core.Path.{◌≡◌, refl, sym, ap, ap₂, ◌∙◌}
use mathlib.Core.Bool.{Bool, true, false, ◌&&◌, cond}
use mathlib.Core.List.{List, ◌++◌, append-nil, append_assoc}
use Prim.Native.Nat.{ℕ, suc, ◌+◌, ◌≤◌}
use native.Mathlib.Omega.{arith}
use lib.Dec.{leb, ltb}
use lib.ListN.{length, take}
use lib.IntN.{ℤ}
use borrow.Author.Tests.{leb-true}
use Rattle.std.specs.Prelude.{Ok}
use Rattle.answer.specs.declared.Answer.{Answer}
use Rattle.answer.specs.declared.Refusal.{Refusal}
use Rattle.answer.specs.declared.Reason.{Reason}
use Rattle.answer.specs.declared.Reason.TheVariants as reason
use Rattle.fraction.specs.Made.{Made, made}
use Rattle.rules_problem.specs.Problem.{refuse}
use Rattle.rules_run.specs.Row.{TERMS, PLACES}
use Rattle.rules_listing.specs.Line.{first_line}
use Rattle.rules_listing.specs.Listing.{all_fractions, places_of, held_line, written_at, refused_at, ROOM, list_row, list_first}
use Rattle.rules_listing.specs.Page.{held_lines, page_text}
use Rattle.list_text.specs.Wrote.{Wrote}
use Rattle.list_text.proofs.Placing.{take_put_at}
use Rattle.list_lines.specs.Contract.{reached_of, listed_by}
use Rattle.list_writer.specs.declared.Writer.{Writer}
use Rattle.list_writer.specs.Contract.{place_after, moved_on, RowWritten, LineWritten}

-- what is told of a line that is not refused: the text, and that the place was within the buffer
record Accepted (place : ℕ) (text before after : List ℕ) (next : ℕ) : Type 0 where
  within : place ≤ length before
  wrote : Wrote text place before after next

-- The rule of a line that was not refused took the case that writes it.
accepted : (place old : ℕ) (why other : Reason) (text before after : List ℕ) (next : ℕ) (room rest sound : Bool) → room ≡ leb (place + ROOM) (length before)
    → listed_by (Ok next) after ≡ cond (room && rest) (cond sound (written_at place text before) (refused_at other old before)) (refused_at why old before) → Accepted place text before after next
unfolding listed_by reached_of refuse
accepted place old why other text before after next true true true is same =
    let fits = leb-true (place + ROOM) (length before) (sym is) in
    let step : ◌≡◌ {A = Made Refusal ℕ} (made next) (made (place + length text)) = ap (λ l. l.reached) same in
    record { within = omega arith; wrote = record { placed = ap (λ l. l.buffer) same; reached = cc } }
accepted place old why other text before after next true true false is same =
    let step = ap (λ l. l.reached) same in cc
accepted place old why other text before after next true false sound is same =
    let step = ap (λ l. l.reached) same in cc
accepted place old why other text before after next false rest sound is same =
    let step = ap (λ l. l.reached) same in cc

-- What then stands before the place reached is what stood before the old one, and the text.
stands : (w : Writer) {place next : ℕ} {text before after : List ℕ} {w' : Writer} → Accepted place text before after next → w' ≡ moved_on w (Ok next) after → take w'.at w'.buf.now ≡ take place before ++ text
unfolding place_after
stands w {place} {next} {text} {before} {after} line moves =
    ap₂ take (ap (λ w. w.at) moves ∙ line.wrote.reached) (ap (λ w. w.buf.now) moves ∙ line.wrote.placed) ∙ take_put_at place text before line.within

-- the tests of a rule, grouped as `accepted` reads them
alone : (a : Bool) → a ≡ (a && true)
alone true = refl
alone false = refl

grouped : (a b c : Bool) → (a && b && c) ≡ (a && (b && c))
grouped true b c = refl
grouped false b c = refl

module _ (nums dens : List ℤ) (answer : Answer) where
  -- The first line at place 0 is the page without rows.
  pub first_of_page : {w w' : Writer} {next : ℕ} → w.at ≡ 0 → LineWritten answer w w' (Ok next) → take w'.at w'.buf.now ≡ page_text nums dens answer 0
  unfolding list_first page_text held_lines
  first_of_page {w} {w'} {next} start line =
      let buffer = w.buf.now in
      let room = leb (w.at + ROOM) (length buffer) in
      let tests = ap (λ test. cond test (written_at w.at (first_line answer) buffer) (refused_at reason.Space 0 buffer)) (alone room) in
      let case = accepted w.at 0 reason.Space reason.Space (first_line answer) buffer w'.buf.now next room true true refl (line.lists.answers ∙ tests) in
      stands w case line.moves ∙ ap (λ p. take p buffer ++ first_line answer) start ∙ sym (append-nil (first_line answer))

  -- Each row behind the rows before it is the page with one row more.
  pub next_of_page : {t next : ℕ} {w w' : Writer} → take w.at w.buf.now ≡ page_text nums dens answer t → RowWritten nums dens t w w' (Ok next) → take w'.at w'.buf.now ≡ page_text nums dens answer (suc t)
  unfolding list_row page_text held_lines
  next_of_page {t} {next} {w} {w'} before row =
      let buffer = w.buf.now in
      let room = leb (w.at + ROOM) (length buffer) in
      let sound = ltb t TERMS && all_fractions (places_of t nums) (places_of t dens) in
      let tests = ap (λ test. cond test (cond sound (written_at w.at (held_line nums dens t) buffer) (refused_at reason.Row w.at buffer)) (refused_at reason.Space w.at buffer)) (grouped room (leb PLACES (length nums)) (leb PLACES (length dens))) in
      let case = accepted w.at w.at reason.Space reason.Row (held_line nums dens t) buffer w'.buf.now next room (leb PLACES (length nums) && leb PLACES (length dens)) sound refl (row.lists.answers ∙ tests) in
      stands w case row.moves ∙ ap (λ text. text ++ held_line nums dens t) before ∙ append_assoc (first_line answer) (held_lines nums dens t) (held_line nums dens t)

  -- So two lines written by one writer from place 0 are the first two lines of the page.
  pub two_lines : {w w' w'' : Writer} {p q : ℕ} → w.at ≡ 0 → LineWritten answer w w' (Ok p) → RowWritten nums dens 0 w' w'' (Ok q) → take w''.at w''.buf.now ≡ page_text nums dens answer 1
  two_lines start line row = next_of_page (first_of_page start line) row
