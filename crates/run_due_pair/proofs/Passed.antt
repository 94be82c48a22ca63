-- What the search passes over: pairs that do not wait, and pairs with a lookup that has a twin before it.
-- Main results: `among_there`, `among_passed`, `left_watched`, `rights_passed`, `watched_passed`, `none_waiting`. Assume nothing.
use mathlib.Core.Path.{◌≡◌, refl, sym, ap, ap₂, ◌∙◌}
use mathlib.Core.Logic.{inl, inr}
use mathlib.Core.Bool.{Bool, true, false, not, ◌&&◌, false≢true}
use mathlib.Core.List.{List}
use mathlib.Core.Option.{none}
use Prim.Native.Nat.{ℕ, zero, suc, ◌≤◌, ◌<◌}
use native.Mathlib.Decide.{ℕ_discrete, dec_lt}
use native.Mathlib.Omega.{arith}
use borrow.Author.Tests.{ne_eqb}
use lib.ListN.{length}
use Rattle.set_members.specs.Sets.{holds}
use Rattle.set_members.proofs.Digits.{holds_none}
use Rattle.rules_problem.specs.declared.Term.{Term}
use Rattle.rules_run.specs.Row.{Table}
use Rattle.rules_run.specs.Close.{is_due, due}
use Rattle.laws_invariant.proofs.Due.{first_none}
use Rattle.laws_invariant.proofs.Pivot.{last_or_before}
use Rattle.run_table.specs.Sets.{pending_of, open_of, Shut, Waits, Looked, Watched}
use Rattle.run_due_pair.specs.Found.{pair_for, left_for, pair_among, left_among, RightPassed}
use Rattle.run_due_pair.proofs.Search.{first_agrees, first_nowhere, pair_given, pair_none, among_searched, due_searched}
use Rattle.run_due_pair.proofs.Twins.{twin_left, twin_right, due_calls}

-- A left side of the set gives its pair, any other none.
pub among_there : (lefts : ℕ) (terms : List Term) (table : Table) (j i : ℕ) → holds lefts i ≡ true → pair_among lefts terms table j i ≡ pair_for terms table j i
unfolding pair_among
among_there lefts terms table j i inside = rw inside

pub among_passed : (lefts : ℕ) (terms : List Term) (table : Table) (j i : ℕ) → holds lefts i ≡ false → pair_among lefts terms table j i ≡ none
unfolding pair_among
among_passed lefts terms table j i out = rw out

-- Where a pair that is due cannot be, none is given.
none_given : (terms : List Term) (table : Table) (i j : ℕ) → (is_due terms table i j ≡ true → ⊥) → pair_for terms table j i ≡ none
none_given terms table i j never = pair_given terms table j i false (by (is_due terms table i j) refl)
  where
    by : (b : Bool) → is_due terms table i j ≡ b → false ≡ b
    by true is = absurd (never is)
    by false other = refl

-- Where a right side has no pair due, none of its pairs is.
left_none : (terms : List Term) (table : Table) (j : ℕ) → left_for terms table j ≡ none → (i : ℕ) → i < j → is_due terms table i j ≡ true → ⊥
unfolding left_for
left_none terms table j nothing i before is = pair_none terms table i j is (first_none j 0 (pair_for terms table j) nothing i (omega arith) (omega arith))

module _ {waiting : List ℕ} {terms : List Term} {n : ℕ} {table : Table} {sets : List ℕ} (watched : Watched waiting terms n table sets) where
  -- Where nothing is pending and no right side before j has a pair due, the open lookups that wait give the pair due of j.
  pub left_watched : pending_of sets ≡ 0 → (lefts j : ℕ) → j < n → ((i : ℕ) → holds (open_of sets) i ≡ true → holds (open_of sets) j ≡ true → Waits waiting i j → holds lefts i ≡ true) → ((k : ℕ) → k < j → left_for terms table k ≡ none) → left_for terms table j ≡ left_among lefts terms table j
  unfolding left_for left_among
  left_watched asleep lefts j below covers nothing_yet =
      first_agrees (pair_for terms table j) (pair_among lefts terms table j) j 0 (λ k low. absurd (omega arith)) (λ i before none_yet. by i (omega arith) none_yet (holds lefts i) refl)
    where
      none_pending : (k : ℕ) → holds (pending_of sets) k ≡ true → ⊥
      none_pending k inside = false≢true (sym (holds_none k) ∙ ap (λ s. holds s k) (sym asleep) ∙ inside)

      -- an open pair that is due is one of the lefts
      waits : (i : ℕ) → holds (open_of sets) i ≡ true → holds (open_of sets) j ≡ true → Looked waiting sets i j → holds lefts i ≡ true
      waits i left right (inl waiting-pair) = covers i left right waiting-pair
      waits i left right (inr (inl stirred)) = absurd (none_pending i stirred)
      waits i left right (inr (inr stirred)) = absurd (none_pending j stirred)

      -- a pair with a shut side is not due: a twin would make one due that comes first
      left_shut : (i : ℕ) → ((k : ℕ) → k < i → pair_for terms table j k ≡ none) → is_due terms table i j ≡ true → Shut terms table i → ⊥
      left_shut i none_yet is (inl no_lookup) = (due_calls terms table i j is).0 no_lookup
      left_shut i none_yet is (inr (k, twin)) = pair_none terms table k j (twin_left terms table j twin is) (none_yet k twin.order)

      right_shut : (i : ℕ) → i < j → is_due terms table i j ≡ true → Shut terms table j → ⊥
      right_shut i before is (inl no_lookup) = (due_calls terms table i j is).1 no_lookup
      right_shut i before is (inr (k, twin)) =
          let (first_one, second, apart, earlier, due-there) = twin_right terms table i twin before is in
          left_none terms table second (nothing_yet second earlier) first_one apart due-there

      never : (i : ℕ) → i < j → ((k : ℕ) → k < i → pair_for terms table j k ≡ none) → holds lefts i ≡ false → is_due terms table i j ≡ true → ⊥
      never i before none_yet out is = cases (holds (open_of sets) j) refl (holds (open_of sets) i) refl
        where
          cases : (a : Bool) → holds (open_of sets) j ≡ a → (b : Bool) → holds (open_of sets) i ≡ b → ⊥
          cases true right true left = false≢true (sym out ∙ waits i left right (watched.found i j before below is left right))
          cases true right false left = left_shut i none_yet is (watched.others i (omega arith) left)
          cases false right b left = right_shut i before is (watched.others j below right)

      by : (i : ℕ) → i < j → ((k : ℕ) → k < i → pair_for terms table j k ≡ none) → (b : Bool) → holds lefts i ≡ b → pair_for terms table j i ≡ pair_among lefts terms table j i
      by i before none_yet true inside = sym (among_there lefts terms table j i inside)
      by i before none_yet false out = none_given terms table i j (never i before none_yet out) ∙ sym (among_passed lefts terms table j i out)

  -- A right side that no open lookup waits for has no pair due.
  idle_right : pending_of sets ≡ 0 → (j : ℕ) → j < n → ((i : ℕ) → holds (open_of sets) i ≡ true → holds (open_of sets) j ≡ true → Waits waiting i j → ⊥) → ((k : ℕ) → k < j → left_for terms table k ≡ none) → left_for terms table j ≡ none
  idle_right asleep j below idle nothing_yet =
      left_watched asleep 0 j below (λ i left right waits. absurd (idle i left right waits)) nothing_yet
      ∙ among_searched 0 terms table j
      ∙ first_nowhere _ j (λ i low. among_passed 0 terms table j i (holds_none i))

  -- So right sides that none waits for are passed at once.
  pub rights_passed : pending_of sets ≡ 0 → (from on : ℕ) → ((k : ℕ) → from ≤ k → k < on → (i : ℕ) → holds (open_of sets) i ≡ true → holds (open_of sets) k ≡ true → Waits waiting i k → ⊥) → ((k : ℕ) → k < from → left_for terms table k ≡ none) → (k : ℕ) → k < on → k < n → left_for terms table k ≡ none
  rights_passed asleep from zero idle before = λ k low inside. absurd (omega arith)
  rights_passed asleep from (suc on) idle before =
      let passed = rights_passed asleep from on (λ k above low. idle k above (omega arith)) before in
      last_or_before on (λ inside. by inside (dec_lt on from) passed) passed
    where
      by : on < n → Dec (on < from) → ((k : ℕ) → k < on → k < n → left_for terms table k ≡ none) → left_for terms table on ≡ none
      by inside (yes earlier) passed = before on earlier
      by inside (no later) passed = idle_right asleep on inside (idle on (omega arith) (omega arith)) (λ k low. passed k low (omega arith))

  -- A right side with no pair due need not wait.
  pub watched_passed : {waiting' : List ℕ} (j : ℕ) → n ≤ 64 → RightPassed j waiting waiting' → left_for terms table j ≡ none → Watched waiting' terms n table sets
  watched_passed {waiting'} j few passed nothing =
      record { found = λ i k before below is left right. by i k before below is (ℕ_discrete k j) (watched.found i k before below is left right); others = watched.others }
    where
      by : (i k : ℕ) → i < k → k < n → is_due terms table i k ≡ true → Dec (k ≡ j) → Looked waiting sets i k → Looked waiting' sets i k
      by i k before below is (yes here) waits = absurd (left_none terms table j nothing i (omega arith) (ap (is_due terms table i) (sym here) ∙ is))
      by i k before below is (no other) (inl waits) =
          inl (record {
            left = ap (λ s. holds s i) (passed.others k other (λ last. omega arith)) ∙ waits.left;
            right = passed.rights k ∙ ap₂ (λ a b. not a && b) (ne_eqb k j other) waits.right;
          })
      by i k before below is (no other) (inr stirred) = inr stirred

  -- Where nothing waits and nothing is pending, no pair is due.
  pub none_waiting : length terms ≡ n → pending_of sets ≡ 0 → ((i j : ℕ) → Waits waiting i j → ⊥) → due terms table ≡ none
  none_waiting count asleep idle =
      due_searched terms table n count
      ∙ first_nowhere (left_for terms table) n (λ j below. rights_passed asleep 0 n (λ k above low i left right. idle i k) (λ k low. absurd (omega arith)) j below below)
