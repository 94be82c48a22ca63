-- The contract of the build leaves one answer, and one content of the lists.
-- Main result: `build_unique`. Assumes nothing.
use Rattle.std.specs.Prelude.{Ok}
use mathlib.Core.Path.{◌≡◌, sym, ◌∙◌}
use mathlib.Core.List.{List}
use Prim.Native.Nat.{ℕ, ◌*◌}
use lib.ListN.{length}
use Rattle.unique.specs.Twice.{TwiceAsked}
use Rattle.record_reader.specs.Held.{Held}
use Rattle.rules_run.specs.Row.{COLUMNS}
use Rattle.run_table.specs.Step.{Step}
use Rattle.run_table.specs.Notes.{NotesKept}
use Rattle.run_table.specs.Lists.{both}
use Rattle.run_table.specs.Work.{table_of}
use Rattle.run_table.proofs.Determined.{step_determined, done_determined, table_determined, lists_determined}
use Rattle.run_table.proofs.SameEnd.{SameEnd, kept_alike}
use Rattle.run_table.proofs.Unique.{calls_determined}
use Rattle.run_build.specs.Contract.{Builds}
use Rattle.run_build.specs.Store.{Store, store}
use Rattle.run_build.proofs.build.Kinds.{ps, r}
use Rattle.run_build.proofs.build.Reads.{Pre, Post}

-- What two answers to one call leave alike: how it ends, both lists and what is noted of the lookups where it is done; where it is
-- refused, every place but those of the n terms.
pub record SameBuild (n : ℕ) (x y : Step) (new new' : Store) : Type 0 where
  pub rows : SameEnd 0 (COLUMNS * n) x y (both new.work.nums new.work.dens) (both new'.work.nums new'.work.dens)
  pub noted : x ≡ Ok tt → (new.heads ≡ new'.heads) × (new.inputs ≡ new'.inputs)
  pub notes : NotesKept n new.heads new.inputs new'.heads new'.inputs
  pub size : length new.work.sets ≡ length new'.work.sets

-- Lists that keep what is noted behind n terms keep each other's.
pub notes_alike : {n : ℕ} {heads₀ inputs₀ heads inputs heads' inputs' : List ℕ} → NotesKept n heads₀ inputs₀ heads inputs → NotesKept n heads₀ inputs₀ heads' inputs' → NotesKept n heads inputs heads' inputs'
notes_alike first second =
    record {
      heads_length = second.heads_length ∙ sym first.heads_length;
      inputs_length = second.inputs_length ∙ sym first.inputs_length;
      heads_beyond = λ k far. second.heads_beyond k far ∙ sym (first.heads_beyond k far);
      inputs_beyond = λ k far. second.inputs_beyond k far ∙ sym (first.inputs_beyond k far);
    }

builds_same : {bytes : List ℕ} {n : ℕ} {x y : Step} {old new new' : Store} → Held bytes → Builds bytes n x old new → Builds bytes n y old new' → SameBuild n x y new new'
builds_same {n = n} {x} {y} {new = new} {new'} held first second =
    let table = table_of n new.work in
    let table' = table_of n new'.work in
    let ends = first.answers held.problem held.same in
    let ends' = second.answers held.problem held.same in
    let alike = step_determined x y table table' ends ends' in
    record {
      rows = record {
        answer = alike;
        done = λ over. lists_determined first.kept second.kept λ k above below.
            table_determined n (first.standing over).rows.sound (second.standing (sym alike ∙ over)).rows.sound (done_determined x y table table' ends ends' over) k below;
        kept = kept_alike first.kept second.kept;
      };
      noted = λ over. calls_determined first.notes second.notes ((first.standing over).calls held.problem held.same) ((second.standing (sym alike ∙ over)).calls held.problem held.same);
      notes = notes_alike first.notes second.notes;
      size = first.size ∙ sym second.size;
    }

-- How the build ends is fixed, and so are both lists and what is noted of the lookups where it is done. Where it is refused, so is every
-- place but those of the n terms, which may hold anything: the run ends there, and nothing reads them but what clears them. (The sets are
-- hints: larger ones would give the same run, more slowly.) Said of the contract itself: of what the toolchain reads from it.
pub build_unique : TwiceAsked ps r Pre Post λ κs (bytes, (n, _)) x y (_, (_, (nums, (dens, (heads, (inputs, (sets, _))))))) (_, (_, (nums', (dens', (heads', (inputs', (sets', _))))))).
    SameBuild n x y (store nums.now dens.now heads.now inputs.now sets.now) (store nums'.now dens'.now heads'.now inputs'.now sets'.now)
build_unique κs a x y end end' asked first second = builds_same asked.held first second
