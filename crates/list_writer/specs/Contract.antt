-- What the line writer promises: a line is listed at the place reached, and the place moves on.
-- Main definitions: `place_after`, `moved_on`, `RowWritten`, `LineWritten`. Assumes nothing.
use Rattle.std.specs.Prelude.{◌≡◌, Result, Ok, Err, List, ℕ, ℤ}
use denote.Ref.{at_last}
use Rattle.answer.specs.declared.Answer.{Answer}
use Rattle.answer.specs.declared.Refusal.{Refusal}
use Rattle.list_lines.specs.Contract.{ListsRow, ListsFirst}
use Rattle.list_writer.specs.declared.Writer.{Writer}

-- the place reached after a line: the new one, or on refusal the old one
unfoldable pub place_after : Result ℕ Refusal → (old : ℕ) → ℕ
place_after (Ok place) old = place
place_after (Err why) old = old

-- the same borrow with another content, and the place after the line. `at_last x l` is the reference x at the list l.
abbrev pub moved_on : Writer → Result ℕ Refusal → (buffer : List ℕ) → Writer
moved_on w r buffer = record { buf = at_last w.buf buffer; at = place_after r w.at }

-- Row t is listed at the place reached, or refused, and the writer carries the place after it.
pub record RowWritten (nums dens : List ℤ) (t : ℕ) (w w' : Writer) (r : Result ℕ Refusal) : Type 0 where
  pub lists : ListsRow nums dens t w.at w.buf.now w'.buf.now r
  pub moves : w' ≡ moved_on w r w'.buf.now

-- An answer's first line, in the same way.
pub record LineWritten (answer : Answer) (w w' : Writer) (r : Result ℕ Refusal) : Type 0 where
  pub lists : ListsFirst answer w.at w.buf.now w'.buf.now r
  pub moves : w' ≡ moved_on w r w'.buf.now
