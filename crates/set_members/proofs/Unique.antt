-- The public functions on sets: each contract leaves one answer.
-- Main results: `sets_equal`, `sets_determined`, and by them a law NAME_unique for each public function NAME. Assume nothing.
use mathlib.Core.Path.{◌≡◌, refl, sym, ◌∙◌}
use mathlib.Core.Bool.{Bool, true≢false}
use Prim.Native.Nat.{ℕ, zero, suc, ◌+◌, ◌/◌, ◌%◌, ◌^◌, ◌<◌, ◌≤◌}
use native.Mathlib.Nat.{pow-suc}
use native.Mathlib.Omega.{arith}
use lib.Dec.{eqb}
use lib.Pow.{pow_mono}
use Rattle.unique.specs.Twice.{Twice}
use Rattle.set_members.specs.Sets.{holds}
use Rattle.set_members.proofs.Digits.{of_bits, holds_zero, holds_suc}
use Rattle.set_members.proofs.common.Kinds as common-kinds
use Rattle.set_members.proofs.common.Reads as common
use Rattle.set_members.proofs.has.Kinds as has-kinds
use Rattle.set_members.proofs.has.Reads as has
use Rattle.set_members.proofs.union.Kinds as union-kinds
use Rattle.set_members.proofs.union.Reads as union
use Rattle.set_members.proofs.with.Kinds as with-kinds
use Rattle.set_members.proofs.with.Reads as with
use Rattle.set_members.proofs.without.Kinds as without-kinds
use Rattle.set_members.proofs.without.Reads as without

-- Two bits that pass the test alike are equal.
bits_equal : (p q : ℕ) → p < 2 → q < 2 → eqb p 1 ≡ eqb q 1 → p ≡ q
bits_equal = of_bits (λ p q. eqb p 1 ≡ eqb q 1 → p ≡ q) (λ same. refl) (λ same. absurd (true≢false (sym same))) (λ same. absurd (true≢false same)) (λ same. refl)

-- Two sets that hold the same numbers are one.
pub sets_equal : (width a b : ℕ) → a < 2 ^ width → b < 2 ^ width → ((k : ℕ) → k < width → holds a k ≡ holds b k) → a ≡ b
sets_equal zero a b ha hb same = omega arith
sets_equal (suc width) a b ha hb same =
    let last : a % 2 ≡ b % 2 = bits_equal (a % 2) (b % 2) (omega arith) (omega arith) (sym (holds_zero a) ∙ same 0 (omega arith) ∙ holds_zero b) in
    let half-a : a / 2 < 2 ^ width = omega (arith, pow-suc 2 width) in
    let half-b : b / 2 < 2 ^ width = omega (arith, pow-suc 2 width) in
    let rest : a / 2 ≡ b / 2 = sets_equal width (a / 2) (b / 2) half-a half-b (λ k h. sym (holds_suc a k) ∙ same (suc k) (omega arith) ∙ holds_suc b k) in
    omega arith

-- A number is below its power of 2.
below_power : (n : ℕ) → n < 2 ^ n
below_power zero = omega arith
below_power (suc n) = omega (arith, below_power n, pow-suc 2 n)

-- A contract that says of every number whether it is in the answer leaves one answer.
pub sets_determined : {r s : ℕ} (inside : ℕ → Bool) → ((k : ℕ) → holds r k ≡ inside k) → ((k : ℕ) → holds s k ≡ inside k) → r ≡ s
sets_determined {r} {s} inside first second =
    let left : 2 ^ r ≤ 2 ^ (r + s) = pow_mono (omega arith) in
    let right : 2 ^ s ≤ 2 ^ (r + s) = pow_mono (omega arith) in
    sets_equal (r + s) r s (omega (arith, below_power r)) (omega (arith, below_power s)) (λ k h. first k ∙ sym (second k))

pub with_unique : Twice with-kinds.ps with-kinds.r with.Post λ κs a x y end end'. x ≡ y
with_unique κs a x y end end' first second = sets_determined _ first second

pub union_unique : Twice union-kinds.ps union-kinds.r union.Post λ κs a x y end end'. x ≡ y
union_unique κs a x y end end' first second = sets_determined _ first second

pub common_unique : Twice common-kinds.ps common-kinds.r common.Post λ κs a x y end end'. x ≡ y
common_unique κs a x y end end' first second = sets_determined _ first second

pub without_unique : Twice without-kinds.ps without-kinds.r without.Post λ κs a x y end end'. x ≡ y
without_unique κs a x y end end' first second = sets_determined _ first second

pub has_unique : Twice has-kinds.ps has-kinds.r has.Post λ κs a x y end end'. x ≡ y
has_unique κs a x y end end' first second = first ∙ sym second
