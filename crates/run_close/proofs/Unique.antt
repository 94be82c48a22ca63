-- The contract of closing leaves one answer: the terms whose lookups are noted fix it.
-- Main result: `close_unique`. Assumes nothing.
use Rattle.std.specs.Prelude.{Err, Ok, Result, OnOk}
use Rattle.run_merge.specs.declared.Halt.{Halt}
use Rattle.run_merge.specs.declared.Halt.TheVariants.{Contradiction, Refused}
use mathlib.Core.Path.{◌≡◌, refl, sym, ap, ◌∙◌}
use mathlib.Core.List.{List}
use Prim.Native.Nat.{ℕ, ◌*◌}
use Rattle.unique.specs.Twice.{TwiceAsked}
use Rattle.fraction.specs.Made.{Made, made, stopped}
use Rattle.rules_run.specs.Row.{Table, COLUMNS}
use Rattle.rules_run.specs.Merge.{State, Stop, contradiction, outside}
use Rattle.run_table.specs.Loop.{Kept}
use Rattle.run_table.specs.Work.{Work, table_of}
use Rattle.run_table.proofs.Determined.{table_determined, kept_both, lists_determined}
use Rattle.run_close.specs.Outcome.{closed}
use Rattle.run_close.specs.Contract.{Closable, Closes}
use Rattle.run_close.proofs.close.Kinds.{ps, r}
use Rattle.run_close.proofs.close.Reads.{Pre, Post}

closed_of : Made Stop State → Result ℕ Halt
closed_of (made state) = Ok state.solved
closed_of (stopped contradiction) = Err Contradiction
closed_of (stopped (outside number)) = Err (Refused number)

closed_back : (r : Result ℕ Halt) (table : Table) → closed_of (closed r table) ≡ r
unfolding closed closed_of
closed_back (Ok solved) table = refl
closed_back (Err Contradiction) table = refl
closed_back (Err (Refused number)) table = refl

-- equal answers that go on leave equal tables
table_back : (r : Result ℕ Halt) {P : Type 0} (table table' : Table) → closed r table ≡ closed r table' → (table ≡ table' → P) → OnOk r P
unfolding closed
table_back (Ok count) table table' h k = let same : ◌≡◌ {A = State} (record { table = table; solved = count }) (record { table = table'; solved = count }) = cc in k (ap (λ s. s.table) same)
table_back (Err halt) table table' h k = tt

module _ {n solved : ℕ} {heads inputs : List ℕ} {old new new' : Work} {x y : Result ℕ Halt} (asked : Closable n solved heads inputs old)
    (first : Closes n solved heads inputs x old new) (second : Closes n solved heads inputs y old new') where
  both : closed x (table_of n new) ≡ closed y (table_of n new')
  both = let notes = asked.resting.notes in sym (first.answers notes.terms notes.lookups) ∙ second.answers notes.terms notes.lookups

  answers_same : x ≡ y
  answers_same = sym (closed_back x (table_of n new)) ∙ ap closed_of both ∙ closed_back y (table_of n new')

  lists_same : OnOk x ((new.nums ≡ new'.nums) × (new.dens ≡ new'.dens))
  lists_same =
      table_back x (table_of n new) (table_of n new') (both ∙ ap (λ a. closed a (table_of n new')) (sym answers_same)) λ same.
      lists_determined first.kept second.kept λ k above below. table_determined n first.sound second.sound same k below

-- The answer is fixed; so are the lengths of both lists and every place but those of the n terms, and these too where closing goes on. (Where
-- it stops, they may hold anything that is sound. The sets are hints, of which any larger ones serve as well.) Said of the contract itself,
-- as the toolchain reads it.
pub close_unique : TwiceAsked ps r Pre Post λ κs (nums₀, (dens₀, (n, others₀))) x y (nums, (dens, others)) (nums', (dens', others')).
    (x ≡ y) × Kept 0 (COLUMNS * n) nums.now dens.now nums'.now dens'.now × OnOk x ((nums.now ≡ nums'.now) × (dens.now ≡ dens'.now))
close_unique κs a x y end end' asked first second = (answers_same asked first second, kept_both first.kept second.kept, lists_same asked first second)
