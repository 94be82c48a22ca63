-- The contract of `run_difference::difference` leaves one answer.
-- Main result: `difference_unique`. Assumes nothing.
use native.Mathlib.Omega.{arith}
use Rattle.unique.specs.Twice.{Twice}
use Rattle.rules_run.specs.Row.{COLUMNS}
use Rattle.run_table.specs.Lists.{both}
use Rattle.run_table.proofs.OverSet.{Spared}
use Rattle.run_table.proofs.SameEnd.{SameEnd, row_same_end, within_alike}
use Rattle.run_difference.proofs.difference.Kinds.{ps, r}
use Rattle.run_difference.proofs.difference.Reads.{Post}

-- How it ends is fixed, and both lists where it is done. Where it is refused, so is every place but those of the difference in the columns
-- of the set and the constant's: these may hold anything that is sound.
pub difference_unique : Twice ps r Post λ κs (nums, (dens, (left, (right, (set, _))))) x y (_, (_, (_, (_, (_, (d-nums, (d-dens, _))))))) (_, (_, (_, (_, (_, (d-nums', (d-dens', _))))))).
    SameEnd 0 COLUMNS x y (both d-nums.now d-dens.now) (both d-nums'.now d-dens'.now) × Spared set 0 d-nums.now d-dens.now d-nums'.now d-dens'.now
difference_unique κs a x y end end' first second = (
  row_same_end (omega arith) first.row_made second.row_made,
  within_alike (omega arith) first.row_made.sound second.row_made.sound first.within second.within,
)
