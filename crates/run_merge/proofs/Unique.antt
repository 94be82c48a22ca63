-- The contract of a merge leaves one answer.
-- Main result: `merge_unique`. Assumes nothing.
use Rattle.std.specs.Prelude.{Err, Ok, OnOk, Result}
use mathlib.Core.Path.{◌≡◌, refl, sym, ap, ◌∙◌, subst}
use Prim.Native.Nat.{ℕ, ◌+◌, ◌*◌}
use native.Mathlib.Nat.{zero-add}
use lib.ListN.{length}
use Rattle.unique.specs.Twice.{Twice}
use Rattle.fraction.specs.Made.{Made, made, stopped}
use Rattle.rules_run.specs.Row.{Table, COLUMNS}
use Rattle.rules_run.specs.Merge.{State, Stop, contradiction, outside}
use Rattle.run_table.specs.Loop.{Kept}
use Rattle.run_table.specs.Work.{Work, table_of}
use Rattle.run_table.proofs.Determined.{table_determined, lists_determined}
use Rattle.run_table.proofs.SameEnd.{SameLinks, kept_alike, stirred_alike}
use Rattle.run_merge.specs.declared.Halt.{Halt}
use Rattle.run_merge.specs.declared.Halt.TheVariants.{Contradiction, Refused}
use Rattle.run_merge.specs.Outcome.{merged}
use Rattle.run_merge.specs.Contract.{Hints, Merges}
use Rattle.run_merge.proofs.merge.Kinds.{ps, r}
use Rattle.run_merge.proofs.merge.Reads.{Post}

-- what the rule's answer says, where no unknown was solved before
merged_of : Made Stop State → Result ℕ Halt
merged_of (made state) = Ok state.solved
merged_of (stopped contradiction) = Err Contradiction
merged_of (stopped (outside number)) = Err (Refused number)

merged_back : (r : Result ℕ Halt) (table : Table) → merged_of (merged r 0 table) ≡ r
unfolding merged merged_of
merged_back (Ok more) table = ap Ok (zero-add more)
merged_back (Err Contradiction) table = refl
merged_back (Err (Refused number)) table = refl

-- equal answers that do not stop leave equal tables, each with what is said of it
table_back : (r : Result ℕ Halt) {P Q R : Type 0} (table table' : Table) → merged r 0 table ≡ merged r 0 table' → OnOk r P → OnOk r Q
    → (table ≡ table' → P → Q → R) → OnOk r R
unfolding merged
table_back (Ok more) table table' h p q k =
    let same : ◌≡◌ {A = State} (record { table = table; solved = 0 + more }) (record { table = table'; solved = 0 + more }) = cc in k (ap (λ s. s.table) same) p q
table_back (Err halt) table table' h p q k = tt

module _ {n t u preferred : ℕ} {r s : Result ℕ Halt} {old new new' : Work} (first : Merges n t u preferred r old new) (second : Merges n t u preferred s old new') where
  answers_same : r ≡ s
  answers_same = sym (merged_back r (table_of n new)) ∙ ap merged_of (sym (first.answers 0) ∙ second.answers 0) ∙ merged_back s (table_of n new')

  lists_same : OnOk r ((new.nums ≡ new'.nums) × (new.dens ≡ new'.dens) × SameLinks new.sets new'.sets)
  lists_same =
      table_back r (table_of n new) (table_of n new') (sym (first.answers 0) ∙ second.answers 0 ∙ ap (λ a. merged a 0 (table_of n new')) (sym answers_same))
      first.left.hints (subst (λ a. OnOk a (Hints n old new')) (sym answers_same) second.left.hints) λ same hints hints'.
      let lists = lists_determined first.left.kept second.left.kept (λ k above below. table_determined n first.left.sound second.left.sound same k below) in
      (lists.0, lists.1, stirred_alike hints.stirred hints'.stirred)

-- The answer is fixed, and so are both lists and the links of the sets where the merge does not stop; where it stops, so is every place but
-- those of the n rows, which may hold anything that is sound: the run ends there, and its caller clears them.
-- Said of the contract itself: of what the toolchain reads from it.
pub merge_unique : Twice ps r Post λ κs (_, (_, (n, _))) x y (nums, (dens, (_, (_, (_, (sets, _)))))) (nums', (dens', (_, (_, (_, (sets', _)))))).
    (x ≡ y)
    × OnOk x ((nums.now ≡ nums'.now) × (dens.now ≡ dens'.now) × SameLinks sets.now sets'.now)
    × Kept 0 (COLUMNS * n) nums.now dens.now nums'.now dens'.now
    × (length sets'.now ≡ length sets.now)
merge_unique κs a x y end end' first second = (
  answers_same first second,
  lists_same first second,
  kept_alike first.left.kept second.left.kept,
  second.left.size ∙ sym first.left.size,
)
