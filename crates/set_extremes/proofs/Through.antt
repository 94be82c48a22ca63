-- The turns of the loops through a set.
-- Main results: `least_turn`, `column_turn`, `constant_turn`, `greatest_found`, `last_turn`, `last_less`;
-- of a turn: `taken_inside`, `taken_out`, `taken_within`, and the same of `last`. Assume nothing.
use Rattle.std.proofs.lemmas.Nat.{and_le_r}
use Rattle.std.specs.Prelude.{Option, Some, None}
use mathlib.Core.Path.{◌≡◌, refl, sym, ap, ◌∙◌, subst}
use mathlib.Core.Logic.{◌⊎◌, inl, inr}
use mathlib.Core.Bool.{Bool, true, false, not, ◌&&◌, and-true, and-false, false≢true}
use Prim.Native.Nat.{ℕ, ◌+◌, ◌-◌, ◌*◌, ◌%◌, ◌^◌, ◌<◌, ◌≤◌}
use native.Mathlib.Decide.{dec_lt, ℕ_discrete}
use native.Mathlib.Omega.{arith}
use borrow.Author.Tests.{eq-eqb, ne_eqb}
use lib.Bits.{bit_and}
use lib.Count.{count_leading_zeros, leading_top}
use lib.Dec.{eqb}
use lib.Pow.{pow_pos}
use Rattle.set_members.specs.Sets.{holds}
use Rattle.set_members.proofs.Digits.{holds_and, holds_below, holds_beyond, one_shifted}
use Rattle.set_extremes.specs.Extremes.{LeastBelow, Last}
use Rattle.set_extremes.specs.Through.{Greatest, Taken, TakenLast, ColumnTaken}
use Rattle.set_extremes.proofs.Downward.{top_last}
use Rattle.set_extremes.proofs.Onward.{least_first, first_none}
use Rattle.set_extremes.proofs.Taken.{least_taken, none_taken}

-- `&` with the number less 1 takes the least out.
pub least_turn : {set at : ℕ} → 0 < set → set < 2 ^ 64 → LeastBelow set at → Taken set at (bit_and set (set - 1))
least_turn some small least = record { below = least.below; first = least_first least; rest = least_taken some small }

pub column_turn : {left : Option ℕ} {set at : ℕ} → left ≡ Some set → 0 < set → set < 2 ^ 64 → LeastBelow set at → ColumnTaken left at (Some (bit_and set (set - 1)))
column_turn is some small least = rw is record { more = refl; first = least_first least; rest = least_taken some small; over = least.below }

-- Of the empty set the constant's column is left.
pub constant_turn : {left : Option ℕ} {set : ℕ} → left ≡ Some set → set ≡ 0 → ColumnTaken left 64 None
constant_turn is empty = rw is record { more = refl; first = first_none empty; rest = none_taken empty; over = refl }

-- The digits of a number that is not 0 reach as far as its greatest number says.
pub greatest_found : {set : ℕ} → 0 < set → set < 2 ^ 64 → Greatest set (63 - count_leading_zeros 64 set)
greatest_found {set} some small =
    let found = leading_top 64 set some small in
    let here : 63 - count_leading_zeros 64 set ≡ found.0 = omega (arith, found.1) in
    let one_more : 64 - count_leading_zeros 64 set ≡ 63 - count_leading_zeros 64 set + 1 = omega (arith, found.1) in
    record { last = subst (Last set 64) one_more (top_last set small); within = rw here found.2 }

-- So there are less than 64 zeros at its head.
pub leading_less : {set : ℕ} → 0 < set → set < 2 ^ 64 → count_leading_zeros 64 set < 64
leading_less {set} some small = omega (arith, (leading_top 64 set some small).1)

-- `&` with the ones below the greatest takes it out.
module _ {set at : ℕ} (small : set < 2 ^ 64) (greatest : Greatest set at) where
  others : (k : ℕ) → holds (bit_and set (2 ^ at - 1)) k ≡ (not (eqb k at) && holds set k)
  others k = holds_and set (2 ^ at - 1) k ∙ by (dec_lt k at) (ℕ_discrete k at)
    where
      beyond : at ≤ k → holds (2 ^ at - 1) k ≡ false
      beyond h = let some : 0 < 2 ^ at = pow_pos at in holds_beyond (2 ^ at - 1) at k (omega arith) h

      above : at < k → Dec (k < 64) → holds set k ≡ false
      above h (yes low) = greatest.last.none_between k (omega arith) low
      above h (no high) = holds_beyond set 64 k small (omega arith)

      by : Dec (k < at) → Dec (k ≡ at) → (holds set k && holds (2 ^ at - 1) k) ≡ (not (eqb k at) && holds set k)
      by (yes low) _ =
          ap (λ b. holds set k && b) (holds_below at k low) ∙ and-true (holds set k)
          ∙ sym (ap (λ b. not b && holds set k) (ne_eqb k at (λ e. omega arith)))
      by (no _) (yes here) = ap (λ b. holds set k && b) (beyond (omega arith)) ∙ and-false (holds set k) ∙ sym (ap (λ b. not b && holds set k) (eq-eqb k at here))
      by (no h) (no other) =
          ap (λ b. b && holds (2 ^ at - 1) k) (above (omega arith) (dec_lt k 64))
          ∙ sym (ap (λ b. not (eqb k at) && b) (above (omega arith) (dec_lt k 64)) ∙ and-false (not (eqb k at)))

  pub last_turn : TakenLast set at (bit_and set ((1 * 2 ^ at) % 2 ^ 64 - 1))
  last_turn = record { last = greatest.last; rest = λ k. ap (λ p. holds (bit_and set (p - 1)) k) (one_shifted at (omega (arith, greatest.last.backward))) ∙ others k }

  pub last_less : bit_and set ((1 * 2 ^ at) % 2 ^ 64 - 1) < set
  last_less =
      let one = one_shifted at (omega (arith, greatest.last.backward)) in
      let some : 0 < 2 ^ at = pow_pos at in
      let cut : bit_and set ((1 * 2 ^ at) % 2 ^ 64 - 1) ≤ (1 * 2 ^ at) % 2 ^ 64 - 1 = and_le_r _ _ in
      omega (arith, greatest.within, one, cut)

-- What is not left after a turn is the number that it came to, or was not left before it.
out_of : (set at after k : ℕ) → holds after k ≡ (not (eqb k at) && holds set k) → holds after k ≡ false → (k ≡ at) ⊎ (holds set k ≡ false)
out_of set at after k same out = by (ℕ_discrete k at)
  where
    by : Dec (k ≡ at) → (k ≡ at) ⊎ (holds set k ≡ false)
    by (yes here) = inl here
    by (no other) = inr (sym (ap (λ b. not b && holds set k) (ne_eqb k at other)) ∙ sym same ∙ out)

-- What is left was left before.
within_before : (set at after k : ℕ) → holds after k ≡ (not (eqb k at) && holds set k) → holds after k ≡ true → holds set k ≡ true
within_before set at after k same there = by (eqb k at) (holds set k) (sym same ∙ there)
  where
    by : (a b : Bool) → (not a && b) ≡ true → b ≡ true
    by true b e = absurd (false≢true e)
    by false b e = e

module _ {set at after : ℕ} where
  pub taken_inside : Taken set at after → holds set at ≡ true
  taken_inside taken = taken.first.inside taken.below

  pub taken_out : Taken set at after → (k : ℕ) → holds after k ≡ false → (k ≡ at) ⊎ (holds set k ≡ false)
  taken_out taken k = out_of set at after k (taken.rest.others at taken.first k)

  pub last_inside : TakenLast set at after → holds set at ≡ true
  last_inside taken = let e : at + 1 - 1 ≡ at = omega arith in ap (holds set) (sym e) ∙ taken.last.inside (omega arith)

  pub last_out : TakenLast set at after → (k : ℕ) → holds after k ≡ false → (k ≡ at) ⊎ (holds set k ≡ false)
  last_out taken k = out_of set at after k (taken.rest k)

  pub taken_within : Taken set at after → (k : ℕ) → holds after k ≡ true → holds set k ≡ true
  taken_within taken k = within_before set at after k (taken.rest.others at taken.first k)

  pub last_within : TakenLast set at after → (k : ℕ) → holds after k ≡ true → holds set k ≡ true
  last_within taken k = within_before set at after k (taken.rest k)
