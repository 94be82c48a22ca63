-- Looking for the first number for which something is given, one by one.
-- Main results: `first_passed`, `first_found`, `first_over`, `first_skips`, `first_nowhere`, `first_agrees`, `pair_given`, `pair_none`, `due_searched`, `among_searched`. Assume nothing.
use mathlib.Core.Path.{◌≡◌, refl, sym, ap, ◌∙◌}
use mathlib.Core.Bool.{Bool, true, cond}
use mathlib.Core.List.{List}
use mathlib.Core.Option.{Option, some, none}
use Prim.Native.Nat.{ℕ, zero, suc, ◌+◌, ◌-◌, ◌<◌, ◌≤◌}
use native.Mathlib.Nat.{add-zero, sub-zero}
use native.Mathlib.Decide.{dec_lt}
use native.Mathlib.Omega.{arith}
use lib.ListN.{length}
use Rattle.rules_problem.specs.declared.Term.{Term}
use Rattle.rules_run.specs.Row.{Table}
use Rattle.rules_run.specs.Close.{is_due, first, due}
use Rattle.laws_invariant.proofs.Pivot.{last_or_before}
use Rattle.run_due_pair.specs.Found.{pair_for, left_for, pair_among, left_among}

module _ {A : Type 0} (g : ℕ → Option A) (end i : ℕ) where
  opened : (given : Option A) → i < end → g i ≡ given → first (end - i) i g ≡ elim given [ none ↦ first (end - (i + 1)) (suc i) g | some a ↦ some a ]
  unfolding first
  opened given below e =
      let one : end - i ≡ suc (end - (i + 1)) = omega arith in
      ap (λ count. first count i g) one ∙ ap (λ o. elim o as (λ x. Option A) [ none ↦ first (end - (i + 1)) (suc i) g | some a ↦ some a ]) e

  -- A number that gives nothing is passed.
  pub first_passed : i < end → g i ≡ none → first (end - i) i g ≡ first (end - (i + 1)) (i + 1) g
  first_passed below nothing = let one : suc i ≡ i + 1 = omega arith in opened none below nothing ∙ ap (λ k. first (end - (i + 1)) k g) one

  -- The first that gives something is found.
  pub first_found : (a : A) → i < end → g i ≡ some a → first (end - i) i g ≡ some a
  first_found a below found = opened (some a) below found

  -- At the end nothing was.
  pub first_over : end ≤ i → first (end - i) i g ≡ none
  unfolding first
  first_over over = let empty : end - i ≡ 0 = omega arith in rw empty

module _ {A : Type 0} (g : ℕ → Option A) (end : ℕ) where
  skips_by : (gap i : ℕ) → ((k : ℕ) → i ≤ k → k < i + gap → k < end → g k ≡ none) → first (end - i) i g ≡ first (end - (i + gap)) (i + gap) g
  skips_by zero i nothing = rw add-zero
  skips_by (suc gap) i nothing =
      let on : i + 1 + gap ≡ i + suc gap = omega arith in
      by (dec_lt i end) (skips_by gap (i + 1) (λ k above short low. nothing k (omega arith) (omega arith) low) ∙ ap (λ k. first (end - k) k g) on)
    where
      by : Dec (i < end) → first (end - (i + 1)) (i + 1) g ≡ first (end - (i + suc gap)) (i + suc gap) g → first (end - i) i g ≡ first (end - (i + suc gap)) (i + suc gap) g
      by (yes below) later = first_passed g end i below (nothing i (omega arith) (omega arith) below) ∙ later
      by (no over) later = first_over g end i (omega arith) ∙ sym (first_over g end (i + suc gap) (omega arith))

  -- Numbers that give nothing are passed at once.
  pub first_skips : (i on : ℕ) → i ≤ on → ((k : ℕ) → i ≤ k → k < on → k < end → g k ≡ none) → first (end - i) i g ≡ first (end - on) on g
  first_skips i on forward nothing =
      let there : i + (on - i) ≡ on = omega arith in
      skips_by (on - i) i (λ k above short low. nothing k above (omega arith) low) ∙ ap (λ k. first (end - k) k g) there

  -- Where no number gives anything nothing is found.
  pub first_nowhere : ((k : ℕ) → k < end → g k ≡ none) → first (end - 0) 0 g ≡ none
  first_nowhere nothing = first_skips 0 end (omega arith) (λ k above short low. nothing k low) ∙ first_over g end end (omega arith)

-- Two searches find the same, where they give the same at each number before which the first gives nothing.
pub first_agrees : {A : Type 0} (g h : ℕ → Option A) (count from : ℕ) → ((k : ℕ) → k < from → g k ≡ none) → ((i : ℕ) → i < from + count → ((k : ℕ) → k < i → g k ≡ none) → g i ≡ h i) → first count from g ≡ first count from h
unfolding first
first_agrees g h zero from before same = refl
first_agrees {A} g h (suc count) from before same =
    by (g from) refl λ empty. first_agrees g h count (suc from) (last_or_before from empty before) (λ i below none_yet. same i (omega arith) none_yet)
  where
    here : h from ≡ g from
    here = sym (same from (omega arith) before)

    by : (o : Option A) → g from ≡ o → (g from ≡ none → first count (suc from) g ≡ first count (suc from) h) → ◌≡◌ {A = Option A} (elim (g from) [ none ↦ first count (suc from) g | some a ↦ some a ]) (elim (h from) [ none ↦ first count (suc from) h | some a ↦ some a ])
    by none empty later = rw (here, empty) (later empty)
    by (some a) found later = rw (here, found)

-- The pair i, j is given exactly if it is due.
pub pair_given : (terms : List Term) (table : Table) (j i : ℕ) (test : Bool) → test ≡ is_due terms table i j → pair_for terms table j i ≡ cond test (some (record { left = i; right = j })) none
unfolding pair_for
pair_given terms table j i test e = rw e

pub pair_none : (terms : List Term) (table : Table) (i j : ℕ) → is_due terms table i j ≡ true → pair_for terms table j i ≡ none → ⊥
pair_none terms table i j is nothing = some_not_none (sym (pair_given terms table j i true (sym is)) ∙ nothing)
  where
    some_not_none : {A : Type 0} {a : A} → ◌≡◌ {A = Option A} (some a) none → ⊥
    some_not_none e = let no_way : ◌≡◌ {A = ℕ} 0 1 = cc in absurd (omega arith)

-- The searches of the rules, from their first number on.
pub among_searched : (lefts : ℕ) (terms : List Term) (table : Table) (j : ℕ) → left_among lefts terms table j ≡ first (j - 0) 0 (pair_among lefts terms table j)
unfolding left_among
among_searched lefts terms table j = rw sub-zero

pub due_searched : (terms : List Term) (table : Table) (n : ℕ) → length terms ≡ n → due terms table ≡ first (n - 0) 0 (left_for terms table)
unfolding due left_for pair_for
due_searched terms table n count = rw (count, sub-zero)
