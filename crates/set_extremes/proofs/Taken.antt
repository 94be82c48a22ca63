-- A loop that takes the least number of a set, and goes on with the rest.
-- Main definition: `From`. Main results: `least_taken`, `none_taken`, `from_starts`, `from_first`, `from_here`, `from_rest`. Assume nothing.
use mathlib.Core.Path.{◌≡◌, refl, sym, ap, ap₂, ◌∙◌}
use mathlib.Core.Bool.{true, false, not, ◌&&◌, and_self, and-false, false≢true}
use Prim.Native.Nat.{ℕ, zero, suc, ◌+◌, ◌-◌, ◌/◌, ◌%◌, ◌^◌, ◌<◌, ◌≤◌}
use native.Mathlib.Decide.{ℕ_discrete, dec_lt}
use native.Mathlib.Omega.{arith}
use borrow.Author.Tests.{eqb-true, eqb-false, eq-eqb, ne_eqb}
use lib.Bits.{bit_and}
use lib.Dec.{eqb, eqb-suc-zero, eqb-suc-suc}
use Rattle.set_members.specs.Sets.{holds}
use Rattle.set_members.proofs.Digits.{holds_zero, holds_suc, holds_none, holds_and}
use Rattle.set_extremes.specs.Extremes.{Least, Next, Rest}
use Rattle.set_extremes.proofs.Lowest.{lowest}
use Rattle.set_extremes.proofs.Onward.{least_first, next_determined}

-- An odd number less 1 has the other digits that it had.
odd_digits : (set : ℕ) → holds set 0 ≡ true → (k : ℕ) → (holds set k && holds (set - 1) k) ≡ (not (eqb k 0) && holds set k)
odd_digits set odd zero =
    let one : set % 2 ≡ 1 = eqb-true (set % 2) 1 (sym (holds_zero set) ∙ odd) in
    let even : (set - 1) % 2 ≡ 0 = omega arith in
    ap (λ b. holds set 0 && b) (holds_zero (set - 1) ∙ ap (λ x. eqb x 1) even) ∙ and-false (holds set 0)
odd_digits set odd (suc k) =
    let one : set % 2 ≡ 1 = eqb-true (set % 2) 1 (sym (holds_zero set) ∙ odd) in
    let half : (set - 1) / 2 ≡ set / 2 = omega arith in
    ap (λ b. holds set (suc k) && b) (holds_suc (set - 1) k ∙ ap (λ x. holds x k) half ∙ sym (holds_suc set k))
    ∙ and_self (holds set (suc k)) ∙ ap (λ b. not b && holds set (suc k)) (sym (eqb-suc-zero k))

-- A number less 1 has those digits above its lowest that it had, and its lowest no more.
less_digits : (i set : ℕ) → Least set i → (k : ℕ) → (holds set k && holds (set - 1) k) ≡ (not (eqb k i) && holds set k)
less_digits zero set least k = odd_digits set least.inside k
less_digits (suc i) set least zero =
    ap (λ b. b && holds (set - 1) 0) (least.none_below 0 (omega arith)) ∙ sym (ap (λ b. not (eqb 0 (suc i)) && b) (least.none_below 0 (omega arith)) ∙ and-false (not (eqb 0 (suc i))))
less_digits (suc i) set least (suc k) =
    let half-least : Least (set / 2) i = record { inside = sym (holds_suc set i) ∙ least.inside; none_below = λ j h. sym (holds_suc set j) ∙ least.none_below (suc j) (omega arith) } in
    let odd-not = eqb-false (set % 2) 1 (sym (holds_zero set) ∙ least.none_below 0 (omega arith)) in
    let even : set % 2 ≡ 0 = omega arith in
    let half : (set - 1) / 2 ≡ set / 2 - 1 = omega arith in
    ap₂ ◌&&◌ (holds_suc set k) (holds_suc (set - 1) k ∙ ap (λ x. holds x k) half)
    ∙ less_digits i (set / 2) half-least k
    ∙ ap₂ (λ a b. not a && b) (sym (eqb-suc-suc k i)) (sym (holds_suc set k))

-- What `&` with the number less 1 leaves is the rest.
pub least_taken : {set : ℕ} → 0 < set → set < 2 ^ 64 → Rest set (bit_and set (set - 1))
least_taken {set} some small =
    let found = lowest 64 set some small in
    record {
      others = λ least first k.
          let same = next_determined (least_first (record { below = found.0; least = found.1 })) first in
          holds_and set (set - 1) k ∙ less_digits _ set found.1 k ∙ ap (λ i. not (eqb k i) && holds set k) same;
    }

-- Of the empty set nothing can be taken.
pub none_taken : {set : ℕ} → set ≡ 0 → Rest set 0
none_taken empty = record { others = λ least first k. holds_none k ∙ sym (ap (λ b. not (eqb k least) && b) (ap (λ s. holds s k) empty ∙ holds_none k) ∙ and-false (not (eqb k least))) }

-- In such a loop: `rest` has the numbers of the set from c on.
pub record From (set c rest : ℕ) : Type 0 where
  pub passed : (k : ℕ) → k < c → holds rest k ≡ false
  pub same : (k : ℕ) → c ≤ k → holds rest k ≡ holds set k

pub from_starts : (set : ℕ) → From set 0 set
from_starts set = record { passed = λ k below. absurd (omega arith); same = λ k above. refl }

module _ {set c rest at : ℕ} (small : c ≤ 64) (from : From set c rest) (first : Next rest 0 at) where
  -- The least number of the rest is the next of the set.
  pub from_first : Next set c at
  from_first =
      let on : c ≤ at = by (dec_lt at c) in
      record {
        forward = on;
        most = first.most;
        none_between = λ k above below. sym (from.same k above) ∙ first.none_between k (omega arith) below;
        inside = λ below. sym (from.same at on) ∙ first.inside below;
      }
    where
      by : Dec (at < c) → c ≤ at
      by (yes low) = absurd (false≢true (sym (from.passed at low) ∙ first.inside (omega arith)))
      by (no on) = omega arith

  -- The rest has the numbers from there on.
  pub from_here : From set at rest
  from_here = record { passed = λ k below. first.none_between k (omega arith) below; same = λ k above. from.same k (omega (arith, from_first.forward)) }

  -- Its own rest has those behind it.
  pub from_rest : {after : ℕ} → Rest rest after → From set (at + 1) after
  from_rest {after} taken =
      record {
        passed = λ k below. taken.others at first k ∙ by k below (ℕ_discrete k at);
        same = λ k above. taken.others at first k ∙ ap (λ b. not b && holds rest k) (ne_eqb k at (λ e. omega arith)) ∙ from.same k (omega (arith, from_first.forward));
      }
    where
      by : (k : ℕ) → k < at + 1 → Dec (k ≡ at) → (not (eqb k at) && holds rest k) ≡ false
      by k below (yes here) = ap (λ b. not b && holds rest k) (eq-eqb k at here)
      by k below (no other) = ap (λ b. not (eqb k at) && b) (first.none_between k (omega arith) (omega arith)) ∙ and-false (not (eqb k at))
