-- The whole listing: the first line, and behind it the lines of the rows; and what its rule asks of the buffer and of the lists.
-- Main results: `room_by_lines`, `all_lines`, `long_none`, `long_short`, `long_rest`. Assume nothing.
use mathlib.Core.Path.{◌≡◌, refl, sym, ◌∙◌}
use mathlib.Core.Bool.{true, false}
use mathlib.Core.List.{List}
use Prim.Native.Nat.{ℕ, zero, suc, ◌+◌, ◌*◌, ◌/◌, ◌≤◌, ◌<◌}
use native.Mathlib.Decide.{dec_lt}
use native.Mathlib.Omega.{arith}
use lib.Dec.{leb, ltb}
use lib.ListN.{length}
use lib.IntN.{ℤ}
use borrow.Author.Tests.{lt-ltb, le-ltb, le-leb, lt-leb}
use Rattle.answer.specs.declared.Answer.{Answer}
use Rattle.rules_run.specs.Row.{PLACES}
use Rattle.rules_listing.specs.Listing.{ROOM}
use Rattle.rules_listing.specs.Page.{page_text, long_for}
use Rattle.list_text.specs.Wrote.{Wrote}
use Rattle.list_text.proofs.Placing.{wrote_then}
use Rattle.list_first_line.specs.Contract.{FirstWritten}
use Rattle.list_page.specs.Contract.{RowsWritten}

-- The buffer has 2,048 bytes for each line where it has them for more lines than there are rows.
pub room_by_lines : (rows len : ℕ) → ltb rows (len / ROOM) ≡ leb (ROOM * (rows + 1)) len
room_by_lines rows len = by (dec_lt rows (len / ROOM))
  where
    by : Dec (rows < len / ROOM) → ltb rows (len / ROOM) ≡ leb (ROOM * (rows + 1)) len
    by (yes enough) = lt-ltb _ _ enough ∙ sym (le-leb (ROOM * (rows + 1)) len (omega arith))
    by (no few) = le-ltb rows (len / ROOM) (omega arith) ∙ sym (lt-leb (ROOM * (rows + 1)) len (omega arith))

pub all_lines : {nums dens : List ℤ} {answer : Answer} {rows first end : ℕ} {before between after : List ℕ}
    → FirstWritten answer 0 before between first
    → RowsWritten rows nums dens first between after end
    → Wrote (page_text nums dens answer rows) 0 before after end
unfolding page_text
all_lines line held = wrote_then (omega arith) line.wrote held.wrote

-- The lists are long enough: where no row is listed, or both are.
pub long_none : (nums dens : List ℤ) (rows : ℕ) → rows ≡ 0 → true ≡ long_for nums dens rows
unfolding long_for
long_none nums dens rows none = rw none

pub long_short : (nums dens : List ℤ) (rows : ℕ) → (rows ≡ 0 → ⊥) → length nums < PLACES → false ≡ long_for nums dens rows
unfolding long_for
long_short nums dens zero some short = absurd (some refl)
long_short nums dens (suc t) some short = rw (lt-leb _ _ short)

pub long_rest : (nums dens : List ℤ) (rows : ℕ) → (rows ≡ 0 → ⊥) → PLACES ≤ length nums → leb PLACES (length dens) ≡ long_for nums dens rows
unfolding long_for
long_rest nums dens zero some long = absurd (some refl)
long_rest nums dens (suc t) some long = rw (le-leb _ _ long)
