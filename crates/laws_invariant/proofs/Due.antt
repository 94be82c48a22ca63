-- The pair that closing merges next, and that a table with none is closed.
-- Main results: `first_none`, `Due`, `due_some`, `none_due`, `due_none`. Assume nothing.
use mathlib.Core.Path.{◌≡◌, refl, sym, ◌∙◌, subst}
use mathlib.Core.Bool.{Bool, true, false, not, ◌&&◌, cond, and-eq-true_iff, true≢false}
use mathlib.Core.List.{List}
use mathlib.Core.Option.{Option, some, none}
use Prim.Native.Nat.{ℕ, zero, suc, ◌+◌, ◌≤◌, ◌<◌}
use native.Mathlib.Omega.{arith}
use lib.ListN.{length}
use lib.Dec.{T}
use borrow.Author.Tests.{not-true}
use Rattle.rules_problem.specs.declared.Term.{Term}
use Rattle.rules_problem.specs.Lookup.{alike, inputs_of, kind_at}
use Rattle.rules_problem.specs.Problem.{Pair}
use Rattle.rules_run.specs.Row.{Table, same_row}
use Rattle.rules_run.specs.Close.{same_rows, is_due, first, due}
use Rattle.laws_invariant.specs.Rows.{EqualCells, EqualPlaces, ClosedTable}
use Rattle.laws_invariant.proofs.Rows.{same_row_equal, same_rows_equal}

-- Where nothing is found, there is nothing at any of the numbers.
pub first_none : {A : Type 0} (count from : ℕ) (g : ℕ → Option A) → first count from g ≡ none → (k : ℕ) → from ≤ k → k < from + count → g k ≡ none
unfolding first
first_none zero from g h k low high = absurd (omega arith)
first_none (suc count) from g h k low high = grind (arith, first_none count (suc from) g)

-- What is found is found at one of the numbers.
first_some : {A : Type 0} (count from : ℕ) (g : ℕ → Option A) (a : A) → first count from g ≡ some a → (k : ℕ) × (k < from + count) × (g k ≡ some a)
unfolding first
first_some zero from g a h = cc
first_some (suc count) from g a h = grind (arith, first_some count (suc from) g a)

-- A pair that closing merges: lookups of one function, inputs with equal rows place by place, unequal rows of their own.
pub record Due (terms : List Term) (table : Table) (i j : ℕ) : Type 0 where
  pub before : i < j
  pub below : j < length terms
  pub similar : T (alike (kind_at terms i) (kind_at terms j))
  pub inputs : EqualPlaces table (inputs_of (kind_at terms i)) (inputs_of (kind_at terms j))
  pub unequal : EqualCells table i j → ⊥

pub T_true : (b : Bool) → T b → b ≡ true
T_true b h = grind arith

module _ (terms : List Term) (table : Table) where
  -- the pair i, j if it is due
  abbrev pair_if : (j i : ℕ) → Option Pair
  pair_if j i = cond (is_due terms table i j) (some (record { left = i; right = j })) none

  is_due_lem : (i j : ℕ) → i < j → j < length terms → is_due terms table i j ≡ true → Due terms table i j
  unfolding is_due
  is_due_lem i j before below h =
      let similar = alike (kind_at terms i) (kind_at terms j) in
      let inputs = same_rows table (inputs_of (kind_at terms i)) (inputs_of (kind_at terms j)) in
      let parts = (and-eq-true_iff (similar && inputs) (not (same_row table i j))).0 h in
      let inner = (and-eq-true_iff similar inputs).0 parts.0 in
      record {
        before = before;
        below = below;
        similar = rw inner.0 tt;
        inputs = (same_rows_equal table _ _).0 inner.1;
        unequal = λ same. true≢false (sym ((same_row_equal table i j).1 same) ∙ not-true _ parts.1);
      }

  -- What closing finds due is due.
  pub due_some : (pair : Pair) → due terms table ≡ some pair → Due terms table pair.left pair.right
  unfolding due
  due_some pair h =
      let (j, below, found) = first_some (length terms) 0 (λ j. first j 0 (pair_if j)) pair h in
      let (i, before, here) = first_some j 0 (pair_if j) pair found in
      by j i (omega arith) (omega arith) (is_due terms table i j) refl here
    where
      by : (j i : ℕ) → j < length terms → i < j → (b : Bool) → is_due terms table i j ≡ b → cond b (some (record { left = i; right = j })) none ≡ some pair → Due terms table pair.left pair.right
      by j i below before true test same = let at : ◌≡◌ {A = Pair} (record { left = i; right = j }) pair = cc in subst (λ q. Due terms table q.left q.right) at (is_due_lem i j before below test)
      by j i below before false test same = cc

  -- Where closing finds nothing due no pair is.
  pub none_due : due terms table ≡ none → (i j : ℕ) → i < j → j < length terms → is_due terms table i j ≡ false
  unfolding due
  none_due h i j before below =
      let row = first_none (length terms) 0 (λ j. first j 0 (pair_if j)) h j (omega arith) (omega arith) in
      grind (arith, first_none j 0 (pair_if j) row i (omega arith) (omega arith))

  -- Then the table is closed.
  pub due_none : due terms table ≡ none → ClosedTable terms table
  unfolding is_due ClosedTable
  due_none h i j before below similar inputs = by (same_row table i j) refl
    where
      by : (b : Bool) → same_row table i j ≡ b → EqualCells table i j
      by true same = (same_row_equal table i j).0 same
      by false other =
          let no = rw (T_true (alike (kind_at terms i) (kind_at terms j)) similar, (same_rows_equal table (inputs_of (kind_at terms i)) (inputs_of (kind_at terms j))).1 inputs, other) at (none_due h i j before below) in
          absurd (true≢false no)
