-- The contract of the assumptions leaves one answer.
-- Main result: `assume_all_unique`. Assumes nothing.
use Rattle.std.specs.Prelude.{OnOk}
use mathlib.Core.Path.{◌≡◌}
use Prim.Native.Nat.{◌*◌}
use Rattle.unique.specs.Twice.{TwiceAsked}
use Rattle.rules_run.specs.Row.{COLUMNS}
use Rattle.run_table.specs.Loop.{Kept}
use Rattle.run_table.proofs.Determined.{table_determined, kept_both, lists_determined}
use Rattle.run_progress.proofs.Going.{when_going}
use Rattle.run_progress.proofs.Unique.{ran_determined, going_determined}
use Rattle.run_assume.proofs.assume_all.Kinds.{ps, r}
use Rattle.run_assume.proofs.assume_all.Reads.{Pre, Post}

-- The answer is fixed; so are the lengths of both lists and every place but those of the n terms, and these too where the run goes on. (Where
-- it ends, they may hold anything that is sound. The sets are hints, of which any larger ones serve as well.) Said of the contract itself,
-- as the toolchain reads it.
pub assume_all_unique : TwiceAsked ps r Pre Post λ κs (bytes, (n, others₀)) x y (_, (_, (_, (nums, (dens, others))))) (_, (_, (_, (nums', (dens', others'))))).
    (x ≡ y) × Kept 0 (COLUMNS * n) nums.now dens.now nums'.now dens'.now × OnOk x ((nums.now ≡ nums'.now) × (dens.now ≡ dens'.now))
assume_all_unique κs a x y end end' asked first second =
    let held = asked.prepared.held in
    let p = first.answers held.problem held.same in
    let q = second.answers held.problem held.same in (
      ran_determined x y _ _ p q,
      kept_both first.stays.kept second.stays.kept,
      when_going x λ count going. lists_determined first.stays.kept second.stays.kept λ k above below.
          table_determined _ first.stays.sound second.stays.sound (going_determined x y _ _ p q going) k below,
    )
