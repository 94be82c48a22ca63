-- The rules of listing a line, case by case: it is refused from lists that are too short, and otherwise stands at the place.
-- Main results: `refused_nums`, `refused_dens`, `row_listed`, `first_listed`. Assume nothing.
use Rattle.std.specs.Prelude.{Ok, Err}
use mathlib.Core.Path.{◌≡◌}
use mathlib.Core.Bool.{true, false, ◌&&◌}
use mathlib.Core.List.{List}
use Prim.Native.Nat.{ℕ, ◌+◌, ◌≤◌, ◌<◌}
use lib.Dec.{leb}
use lib.ListN.{length}
use lib.IntN.{ℤ}
use borrow.Author.Tests.{lt-ltb, le-leb, lt-leb}
use Rattle.answer.specs.declared.Answer.{Answer}
use Rattle.answer.specs.declared.Reason.TheVariants as reason
use Rattle.rules_problem.specs.Problem.{refuse}
use Rattle.rules_run.specs.Row.{PLACES}
use Rattle.rules_listing.specs.Listing.{held_line, ROOM, list_row, list_first}
use Rattle.list_text.specs.Wrote.{Wrote}
use Rattle.list_fractions.proofs.Fractions.{and_false}
use Rattle.list_first_line.specs.Contract.{FirstFits, FirstWritten}
use Rattle.list_row_line.specs.Contract.{RowFits}
use Rattle.list_lines.specs.Contract.{reached_of, listed_by, ListsRow, ListsFirst}

-- all three pass
space : (end size nums dens : ℕ) → end ≤ size → PLACES ≤ nums → PLACES ≤ dens → (leb end size && leb PLACES nums && leb PLACES dens) ≡ true
space end size nums dens roomy nums_long dens_long = rw (le-leb _ _ roomy, le-leb _ _ nums_long, le-leb _ _ dens_long)

module _ {nums dens : List ℤ} {t place : ℕ} {before : List ℕ} where
  -- "With fewer than 2,048 bytes after the place reached, or from short lists, it is refused with 1"
  refused_space : (leb (place + ROOM) (length before) && leb PLACES (length nums) && leb PLACES (length dens)) ≡ false → ListsRow nums dens t place before before (Err (record { reason = reason.Space; place = place }))
  unfolding list_row listed_by reached_of refuse
  refused_space h = record { answers = rw h }

  pub refused_nums : length nums < PLACES → ListsRow nums dens t place before before (Err (record { reason = reason.Space; place = place }))
  refused_nums short = refused_space (rw (lt-leb _ _ short, and_false))

  pub refused_dens : length dens < PLACES → ListsRow nums dens t place before before (Err (record { reason = reason.Space; place = place }))
  refused_dens short = refused_space (rw (lt-leb _ _ short, and_false))

  -- Otherwise the row's line stands at the place.
  pub row_listed : {after : List ℕ} {next : ℕ} → RowFits t nums dens place before → Wrote (held_line nums dens t) place before after next → ListsRow nums dens t place before after (Ok next)
  unfolding list_row listed_by reached_of
  row_listed ready wrote =
      let long = ready.listable.long in
      record { answers = rw (space (place + ROOM) (length before) (length nums) (length dens) ready.room long.nums_long long.dens_long, lt-ltb _ _ long.term, ready.listable.sound, wrote.placed, wrote.reached) }

-- The first line, in the same way.
pub first_listed : {answer : Answer} {place next : ℕ} {before after : List ℕ} → FirstFits place before → FirstWritten answer place before after next → ListsFirst answer place before after (Ok next)
unfolding list_first listed_by reached_of
first_listed ready line = record { answers = rw (le-leb _ _ ready.room, line.wrote.placed, line.wrote.reached) }
