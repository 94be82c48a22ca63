-- The contract of steps 1 and 2 leaves one answer.
-- Main result: `begin_unique`. Assumes nothing.
use Rattle.std.specs.Prelude.{Ok, Result}
use Rattle.answer.specs.declared.Answer.{Answer}
use mathlib.Core.Path.{◌≡◌, sym, ◌∙◌}
use mathlib.Core.List.{List}
use Prim.Native.Nat.{ℕ, ◌*◌}
use lib.ListN.{length}
use Rattle.unique.specs.Twice.{TwiceAsked}
use Rattle.record_reader.specs.Held.{Held}
use Rattle.rules_run.specs.Row.{COLUMNS}
use Rattle.run_table.specs.Notes.{NotesKept}
use Rattle.run_table.specs.Loop.{Kept}
use Rattle.run_table.specs.Work.{table_of}
use Rattle.run_table.proofs.Determined.{table_determined, lists_determined}
use Rattle.run_table.proofs.SameEnd.{kept_alike}
use Rattle.run_table.proofs.Unique.{calls_determined}
use Rattle.run_build.specs.Store.{Store, store}
use Rattle.run_build.proofs.Unique.{notes_alike}
use Rattle.run_progress.proofs.Unique.{ran_determined, going_determined}
use Rattle.std.proofs.lemmas.Result.{IfOk-at_ok}
use Rattle.run_progress.specs.Ran.{Prepared}
use Rattle.run_begin.specs.Contract.{Begins}
use Rattle.run_begin.proofs.begin.Kinds.{ps, r}
use Rattle.run_begin.proofs.begin.Reads.{Pre, Post}

-- What two answers to one call leave alike: how far the run has come, both lists and what is noted of the lookups where it goes on; where
-- it has ended, every place but those of the n terms.
pub record SameBegin (n : ℕ) (x y : Result ℕ Answer) (new new' : Store) : Type 0 where
  pub answer : x ≡ y
  pub nums : (count : ℕ) → x ≡ Ok count → new.work.nums ≡ new'.work.nums
  pub dens : (count : ℕ) → x ≡ Ok count → new.work.dens ≡ new'.work.dens
  pub heads : (count : ℕ) → x ≡ Ok count → new.heads ≡ new'.heads
  pub inputs : (count : ℕ) → x ≡ Ok count → new.inputs ≡ new'.inputs
  pub kept : Kept 0 (COLUMNS * n) new.work.nums new.work.dens new'.work.nums new'.work.dens
  pub notes : NotesKept n new.heads new.inputs new'.heads new'.inputs
  pub size : length new.work.sets ≡ length new'.work.sets

module _ {bytes : List ℕ} {n : ℕ} {x y : Result ℕ Answer} {old new new' : Store} (held : Held bytes) (first : Begins bytes n x old new) (second : Begins bytes n y old new') where
  answers_same : x ≡ y
  answers_same = ran_determined x y (table_of n new.work) (table_of n new'.work) (first.answers held.problem held.same) (second.answers held.problem held.same)

  lists_same : (count : ℕ) → x ≡ Ok count → (new.work.nums ≡ new'.work.nums) × (new.work.dens ≡ new'.work.dens)
  lists_same count going =
      let one = IfOk-at_ok (λ x. Prepared bytes n new.heads new.inputs new.work) going first.prepared in
      let other = IfOk-at_ok (λ x. Prepared bytes n new'.heads new'.inputs new'.work) (sym answers_same ∙ going) second.prepared in
      let table = going_determined x y (table_of n new.work) (table_of n new'.work) (first.answers held.problem held.same) (second.answers held.problem held.same) going in
      lists_determined first.kept second.kept λ k above below. table_determined n one.resting.rows.sound other.resting.rows.sound table k below

  notes_same : (count : ℕ) → x ≡ Ok count → (new.heads ≡ new'.heads) × (new.inputs ≡ new'.inputs)
  notes_same count going =
      let one = IfOk-at_ok (λ x. Prepared bytes n new.heads new.inputs new.work) going first.prepared in
      let other = IfOk-at_ok (λ x. Prepared bytes n new'.heads new'.inputs new'.work) (sym answers_same ∙ going) second.prepared in
      calls_determined first.notes second.notes (one.lookups held.problem held.same).calls (other.lookups held.problem held.same).calls

  begins_same : SameBegin n x y new new'
  begins_same =
      record {
        answer = answers_same;
        nums = λ count going. (lists_same count going).0;
        dens = λ count going. (lists_same count going).1;
        heads = λ count going. (notes_same count going).0;
        inputs = λ count going. (notes_same count going).1;
        kept = kept_alike first.kept second.kept;
        notes = notes_alike first.notes second.notes;
        size = first.size ∙ sym second.size;
      }

-- How far the run has come is fixed, and so are the rows and what is noted of the lookups where it goes on. Where it has ended, so is every
-- place but those of the n terms, which may hold anything: nothing reads them but what clears them. (The sets are hints, of which any
-- larger ones serve as well.) Said of the contract itself: of what the toolchain reads from it.
pub begin_unique : TwiceAsked ps r Pre Post λ κs (bytes, (n, _)) x y (_, (_, (nums, (dens, (heads, (inputs, (sets, _))))))) (_, (_, (nums', (dens', (heads', (inputs', (sets', _))))))).
    SameBegin n x y (store nums.now dens.now heads.now inputs.now sets.now) (store nums'.now dens'.now heads'.now inputs'.now sets'.now)
begin_unique κs a x y end end' asked first second = begins_same asked.held first second
