-- The functions on the extremes of a set: each contract leaves one answer.
-- Main results: a law NAME_unique for each public function NAME, and for the turns of each loop. Assume nothing.
use Rattle.std.specs.Prelude.{Option, Some, None, MatchOption}
use mathlib.Core.Path.{◌≡◌, refl, sym, ap, ◌∙◌, subst}
use mathlib.Core.Bool.{Bool, true, false, not, ◌&&◌, true≢false}
use Prim.Native.Nat.{ℕ, zero, suc, ◌+◌, ◌-◌, ◌<◌}
use native.Mathlib.Decide.{dec_lt}
use native.Mathlib.Omega.{arith}
use lib.Dec.{eqb}
use Rattle.unique.specs.Twice.{Twice}
use Rattle.set_members.specs.Sets.{holds}
use Rattle.set_members.proofs.Digits.{holds_none}
use Rattle.set_members.proofs.Unique.{sets_determined}
use Rattle.set_extremes.specs.Extremes.{Next, Rest}
use Rattle.set_extremes.specs.Through.{Taken, Takes, TakenLast, TakesLast, set_left, TakesColumn}
use Rattle.set_extremes.proofs.Downward.{last_determined}
use Rattle.set_extremes.proofs.Onward.{next_determined}
use Rattle.set_extremes.proofs.first.Kinds as first-kinds
use Rattle.set_extremes.proofs.first.Reads as first
use Rattle.set_extremes.proofs.last.Kinds as last-kinds
use Rattle.set_extremes.proofs.last.Reads as last
use Rattle.set_extremes.proofs.columns.Kinds as columns-kinds
use Rattle.set_extremes.proofs.columns.Reads as columns
use Rattle.set_extremes.proofs.members.Kinds as members-kinds
use Rattle.set_extremes.proofs.members.Reads as members
use Rattle.set_extremes.proofs.next.Kinds as next-kinds
use Rattle.set_extremes.proofs.next.Reads as next
use Rattle.set_extremes.proofs.ColumnsLeftIterator.next.Kinds as columns-next-kinds
use Rattle.set_extremes.proofs.ColumnsLeftIterator.next.Reads as columns-next
use Rattle.set_extremes.proofs.MembersLeftDoubleEndedIterator.next_back.Kinds as members-next_back-kinds
use Rattle.set_extremes.proofs.MembersLeftDoubleEndedIterator.next_back.Reads as members-next_back
use Rattle.set_extremes.proofs.MembersLeftIterator.next.Kinds as members-next-kinds
use Rattle.set_extremes.proofs.MembersLeftIterator.next.Reads as members-next
use Rattle.set_extremes.proofs.rest.Kinds as rest-kinds
use Rattle.set_extremes.proofs.rest.Reads as rest

pub next_unique : Twice next-kinds.ps next-kinds.r next.Post λ κs a x y end end'. x ≡ y
next_unique κs a x y end end' one other = next_determined one other

pub first_unique : Twice first-kinds.ps first-kinds.r first.Post λ κs a x y end end'. x ≡ y
first_unique κs a x y end end' one other = next_determined one other

-- What is passed holds none: one number more.
passed_more : (set at : ℕ) → ((k : ℕ) → k < at → holds set k ≡ false) → holds set at ≡ false → (k : ℕ) → k < suc at → holds set k ≡ false
passed_more set at none out k below = by (dec_lt k at)
  where
    by : Dec (k < at) → holds set k ≡ false
    by (yes low) = none k low
    by (no here) = let same : at ≡ k = omega arith in subst (λ i. holds set i ≡ false) same out

-- Every set has a least number below 64, or none there: looked for from a number on that nothing lies below.
least_exists : (set count at : ℕ) → at + count ≡ 64 → ((k : ℕ) → k < at → holds set k ≡ false) → (r : ℕ) × Next set 0 r
least_exists set zero at e none =
    (64, record { forward = omega arith; most = omega arith; none_between = λ k above below. none k (omega arith); inside = λ below. absurd (omega arith) })
least_exists set (suc count) at e none = by (holds set at) refl (λ out. least_exists set count (suc at) (omega arith) (passed_more set at none out))
  where
    by : (b : Bool) → holds set at ≡ b → (holds set at ≡ false → (r : ℕ) × Next set 0 r) → (r : ℕ) × Next set 0 r
    by true inside onward = (at, record { forward = omega arith; most = omega arith; none_between = λ k above below. none k below; inside = λ below. inside })
    by false out onward = onward out

-- A set has one rest, whatever its least number is.
pub rest_unique : Twice rest-kinds.ps rest-kinds.r rest.Post λ κs a x y end end'. x ≡ y
rest_unique κs a x y end end' one other =
    let found = least_exists a.0 64 0 (omega arith) (λ k below. absurd (omega arith)) in
    sets_determined _ (one.others found.0 found.1) (other.others found.0 found.1)

pub last_unique : Twice last-kinds.ps last-kinds.r last.Post λ κs a x y end end'. x ≡ y
last_unique κs a x y end end' one other = last_determined one other

pub members_unique : Twice members-kinds.ps members-kinds.r members.Post λ κs a x y end end'. x.rest ≡ y.rest
members_unique κs a x y end end' one other = one ∙ sym other

pub columns_unique : Twice columns-kinds.ps columns-kinds.r columns.Post λ κs a x y end end'. x.rest ≡ y.rest
columns_unique κs a x y end end' one other = one ∙ sym other

-- Of a set one number comes, and the same numbers are left.
pub rest_determined : {set at r s : ℕ} → Next set 0 at → Rest set r → Rest set s → r ≡ s
rest_determined {at = at} first one other = sets_determined _ (one.others at first) (other.others at first)

-- Something comes of a set only where it holds something.
none_comes : {set at after : ℕ} → set ≡ 0 → Taken set at after → ⊥
none_comes {set} {at} empty taken = true≢false (sym (taken.first.inside taken.below) ∙ ap (λ s. holds s at) empty ∙ holds_none at)

takes_determined : (set : ℕ) {r s : ℕ} (x y : Option ℕ) → Takes set x r → Takes set y s → (x ≡ y) × (r ≡ s)
takes_determined set None None one other = (refl, one.1 ∙ sym other.1)
takes_determined set None (Some at) one other = absurd (none_comes one.0 other)
takes_determined set (Some at) None one other = absurd (none_comes other.0 one)
takes_determined set (Some at) (Some to) one other =
    let same = next_determined one.first other.first in
    (ap Some same, rest_determined one.first one.rest other.rest)

pub members_next_unique : Twice members-next-kinds.ps members-next-kinds.r members-next.Post λ κs a x y (after, _) (after', _). (x ≡ y) × (after.now.rest ≡ after'.now.rest)
members_next_unique κs a x y end end' one other = takes_determined _ x y one.0 other.0

none_falls : {set at after : ℕ} → set ≡ 0 → TakenLast set at after → ⊥
none_falls {set} {at} empty taken = true≢false (sym (taken.last.inside (omega arith)) ∙ ap (λ s. holds s (at + 1 - 1)) empty ∙ holds_none (at + 1 - 1))

falls_determined : (set : ℕ) {r s : ℕ} (x y : Option ℕ) → TakesLast set x r → TakesLast set y s → (x ≡ y) × (r ≡ s)
falls_determined set None None one other = (refl, one.1 ∙ sym other.1)
falls_determined set None (Some at) one other = absurd (none_falls one.0 other)
falls_determined set (Some at) None one other = absurd (none_falls other.0 one)
falls_determined set (Some at) (Some to) one other =
    let e = last_determined one.last other.last in
    let same : at ≡ to = omega arith in
    (ap Some same, sets_determined (λ k. not (eqb k at) && holds set k) one.rest (rw same other.rest))

pub members_next_back_unique : Twice members-next_back-kinds.ps members-next_back-kinds.r members-next_back.Post λ κs a x y (after, _) (after', _). (x ≡ y) × (after.now.rest ≡ after'.now.rest)
members_next_back_unique κs a x y end end' one other = falls_determined _ x y one.0 other.0

-- Whether the constant's column is over is fixed too.
left_determined : {at to : ℕ} (r s : Option ℕ) → at ≡ to → set_left r ≡ set_left s → MatchOption r (at ≡ 64) (λ _. at < 64) → MatchOption s (to ≡ 64) (λ _. to < 64) → r ≡ s
left_determined None None same left one other = refl
left_determined None (Some s) same left one other = absurd (omega arith)
left_determined (Some r) None same left one other = absurd (omega arith)
left_determined (Some r) (Some s) same left one other = ap Some left

columns_determined : (left : Option ℕ) {r s : Option ℕ} (x y : Option ℕ) → TakesColumn left x r → TakesColumn left y s → (x ≡ y) × (r ≡ s)
columns_determined left None None one other = (refl, one.1 ∙ sym other.1)
columns_determined left None (Some at) one other = absurd (let e = sym one.0 ∙ other.more in cc)
columns_determined left (Some at) None one other = absurd (let e = sym other.0 ∙ one.more in cc)
columns_determined left {r} {s} (Some at) (Some to) one other =
    let same = next_determined one.first other.first in
    (ap Some same, left_determined r s same (rest_determined one.first one.rest other.rest) one.over other.over)

pub columns_next_unique : Twice columns-next-kinds.ps columns-next-kinds.r columns-next.Post λ κs a x y (after, _) (after', _). (x ≡ y) × (after.now.rest ≡ after'.now.rest)
columns_next_unique κs a x y end end' one other = columns_determined _ x y one.0 other.0
