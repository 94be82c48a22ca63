-- What listing a decided problem asks for, step by step, and what it ensures.
-- Main definitions: `RowsLent`, `RowsFit`, `RowsWritten`, `Paged`. Assumes nothing.
use Rattle.std.specs.Prelude.{◌≡◌, Result, true, List, ℕ, ◌+◌, ◌*◌, ◌≤◌, length, ℤ}
use Rattle.answer.specs.declared.Answer.{Answer}
use Rattle.answer.specs.declared.Refusal.{Refusal}
use Rattle.rules_run.specs.Row.{TERMS}
use Rattle.rules_listing.specs.Listing.{ROOM}
use Rattle.rules_listing.specs.Page.{held_lines, long_for, fraction_rows, list_page}
use Rattle.list_text.specs.Wrote.{Wrote}
use Rattle.list_lines.specs.Contract.{place_of, listed_by}

-- The lists hold the first rows.
pub record RowsLent (rows : ℕ) (nums dens : List ℤ) : Type 0 where
  pub few : rows ≤ TERMS
  pub long : long_for nums dens rows ≡ true

-- Each of these rows can be listed, and there is room for their lines.
pub record RowsFit (rows : ℕ) (nums dens : List ℤ) (place : ℕ) (buffer : List ℕ) : Type 0 where
  pub lent : RowsLent rows nums dens
  pub sound : fraction_rows nums dens rows ≡ true
  pub room : place + ROOM * rows ≤ length buffer

-- Their lines stand at the place, and are no longer than that.
pub record RowsWritten (rows : ℕ) (nums dens : List ℤ) (place : ℕ) (before after : List ℕ) (end : ℕ) : Type 0 where
  pub wrote : Wrote (held_lines nums dens rows) place before after end
  pub short : end ≤ place + ROOM * rows

-- The byte string that was decided so is listed from the start of the buffer by the rule, or refused by it; what is listed ends within the buffer.
pub record Paged (nums dens : List ℤ) (bytes : List ℕ) (answer : Answer) (before after : List ℕ) (r : Result ℕ Refusal) : Type 0 where
  pub answers : listed_by r after ≡ list_page nums dens bytes answer before
  pub within : place_of r ≤ length after
