-- What the operations on bits leave in a set.
-- Main results: `of_bits`, `holds_and`, `holds_or`, `holds_xor`, `holds_one`, `holds_none`, `holds_below`, `holds_beyond`, `holds_all`, `holds_shifted`. Assume nothing.
use mathlib.Core.Path.{◌≡◌, refl, sym, ap, ap₂, ◌∙◌}
use mathlib.Core.Bool.{Bool, true, false, not, ◌&&◌, ◌||◌, or_comm}
use Prim.Native.Nat.{ℕ, zero, suc, ◌+◌, ◌-◌, ◌*◌, ◌/◌, ◌%◌, ◌^◌, ◌<◌, ◌≤◌, min, max}
use native.Mathlib.Nat.{pow-suc, pow-succ', div-one, div-div-eq-div-mul, zero-div, div-eq_of_lt, mul-add-mod_self_right, mul-div_cancel, mul-mod_left, one-mul, zero-add, suc-add}
use native.Mathlib.Omega.{arith}
use lib.Dec.{eqb, eqb-zero-suc, eqb-suc-zero, eqb-suc-suc}
use lib.Pow.{pow_pos, pow_mono, shl_exact}
use lib.Bits.{bit_and, bit_or, bit_xor, differ, and_step, or_step, xor_step, and_shr, or_shr, xor_shr}
use Rattle.set_members.specs.Sets.{holds}

-- Number 0 is in a set of an odd number.
pub holds_zero : (set : ℕ) → holds set 0 ≡ eqb (set % 2) 1
unfolding holds
holds_zero set = ap (λ x. eqb (x % 2) 1) (div-one set)

-- The numbers above 0 in a set are those in its half, each one higher.
pub holds_suc : (set k : ℕ) → holds set (suc k) ≡ holds (set / 2) k
unfolding holds
holds_suc set k = ap (λ x. eqb (x % 2) 1) (ap (λ p. set / p) (pow-succ' 2 k) ∙ sym (div-div-eq-div-mul set 2 (2 ^ k)))

-- What holds of both bits of two numbers holds, whichever they are.
pub of_bits : (P : ℕ → ℕ → Type 0) → P 0 0 → P 0 1 → P 1 0 → P 1 1 → (p q : ℕ) → p < 2 → q < 2 → P p q
of_bits P none second first both zero zero hp hq = none
of_bits P none second first both zero (suc zero) hp hq = second
of_bits P none second first both (suc zero) zero hp hq = first
of_bits P none second first both (suc zero) (suc zero) hp hq = both
of_bits P none second first both zero (suc (suc q)) hp hq = absurd (omega arith)
of_bits P none second first both (suc zero) (suc (suc q)) hp hq = absurd (omega arith)
of_bits P none second first both (suc (suc p)) q hp hq = absurd (omega arith)

last_both : (p q : ℕ) → p < 2 → q < 2 → eqb (min p q % 2) 1 ≡ (eqb p 1 && eqb q 1)
last_both = of_bits (λ p q. eqb (min p q % 2) 1 ≡ (eqb p 1 && eqb q 1)) refl refl refl refl

last_either : (p q : ℕ) → p < 2 → q < 2 → eqb (max p q % 2) 1 ≡ (eqb p 1 || eqb q 1)
last_either = of_bits (λ p q. eqb (max p q % 2) 1 ≡ (eqb p 1 || eqb q 1)) refl refl refl refl

-- Bit by bit, `&` is "and".
pub holds_and : (a b k : ℕ) → holds (bit_and a b) k ≡ (holds a k && holds b k)
unfolding holds
holds_and a b k =
    ap (λ x. eqb (x % 2) 1) (and_shr a b k ∙ and_step (a / 2 ^ k) (b / 2 ^ k))
    ∙ ap (λ x. eqb x 1) (mul-add-mod_self_right (bit_and (a / 2 ^ k / 2) (b / 2 ^ k / 2)) 2 (min (a / 2 ^ k % 2) (b / 2 ^ k % 2)))
    ∙ last_both (a / 2 ^ k % 2) (b / 2 ^ k % 2) (omega arith) (omega arith)

-- Bit by bit, `|` is "or".
pub holds_or : (a b k : ℕ) → holds (bit_or a b) k ≡ (holds a k || holds b k)
unfolding holds
holds_or a b k =
    ap (λ x. eqb (x % 2) 1) (or_shr a b k ∙ or_step (a / 2 ^ k) (b / 2 ^ k))
    ∙ ap (λ x. eqb x 1) (mul-add-mod_self_right (bit_or (a / 2 ^ k / 2) (b / 2 ^ k / 2)) 2 (max (a / 2 ^ k % 2) (b / 2 ^ k % 2)))
    ∙ last_either (a / 2 ^ k % 2) (b / 2 ^ k % 2) (omega arith) (omega arith)

-- just one of both
abbrev pub one_of : Bool → Bool → Bool
one_of true b = not b
one_of false b = b

last_one : (p q : ℕ) → p < 2 → q < 2 → eqb (differ p q % 2) 1 ≡ one_of (eqb p 1) (eqb q 1)
last_one = of_bits (λ p q. eqb (differ p q % 2) 1 ≡ one_of (eqb p 1) (eqb q 1)) refl refl refl refl

-- Bit by bit, `^` is "one of both".
pub holds_xor : (a b k : ℕ) → holds (bit_xor a b) k ≡ one_of (holds a k) (holds b k)
unfolding holds
holds_xor a b k =
    ap (λ x. eqb (x % 2) 1) (xor_shr a b k ∙ xor_step (a / 2 ^ k) (b / 2 ^ k))
    ∙ ap (λ x. eqb x 1) (mul-add-mod_self_right (bit_xor (a / 2 ^ k / 2) (b / 2 ^ k / 2)) 2 (differ (a / 2 ^ k % 2) (b / 2 ^ k % 2)))
    ∙ last_one (a / 2 ^ k % 2) (b / 2 ^ k % 2) (omega arith) (omega arith)

-- The set 0 is empty.
pub holds_none : (k : ℕ) → holds 0 k ≡ false
unfolding holds
holds_none k = ap (λ x. eqb (x % 2) 1) (zero-div (2 ^ k))

-- The set of one number.
pub holds_one : (i k : ℕ) → holds (2 ^ i) k ≡ eqb k i
holds_one zero zero = holds_zero 1
holds_one zero (suc k) = holds_suc 1 k ∙ holds_none k ∙ sym (eqb-suc-zero k)
holds_one (suc i) zero =
    holds_zero (2 ^ suc i) ∙ ap (λ x. eqb x 1) (ap (λ x. x % 2) (pow-suc 2 i) ∙ mul-mod_left (2 ^ i) 2) ∙ sym (eqb-zero-suc i)
holds_one (suc i) (suc k) =
    holds_suc (2 ^ suc i) k ∙ ap (λ x. holds x k) (ap (λ x. x / 2) (pow-suc 2 i) ∙ mul-div_cancel (2 ^ i) (omega arith))
    ∙ holds_one i k ∙ sym (eqb-suc-suc k i)

-- The set of one number, as the code makes it.
pub one_shifted : (i : ℕ) → i < 64 → (1 * 2 ^ i) % 2 ^ 64 ≡ 2 ^ i
one_shifted i small = shl_exact {a = 1} 1 i 64 (omega arith) (omega arith) ∙ one-mul (2 ^ i)

-- The set and one number more, as the code makes it.
pub holds_with : (set i : ℕ) → i < 64 → (k : ℕ) → holds (bit_or set ((1 * 2 ^ i) % 2 ^ 64)) k ≡ (eqb k i || holds set k)
holds_with set i small k =
    ap (λ x. holds (bit_or set x) k) (one_shifted i small)
    ∙ holds_or set (2 ^ i) k ∙ or_comm (holds set k) (holds (2 ^ i) k) ∙ ap (λ b. b || holds set k) (holds_one i k)

taken_out : (b c : Bool) → one_of (b || c) b ≡ (not b && c)
taken_out true true = refl
taken_out true false = refl
taken_out false true = refl
taken_out false false = refl

-- The set without one number, as the code makes it.
pub holds_without : (set i : ℕ) → i < 64 → (k : ℕ) → holds (bit_xor (bit_or set ((1 * 2 ^ i) % 2 ^ 64)) ((1 * 2 ^ i) % 2 ^ 64)) k ≡ (not (eqb k i) && holds set k)
holds_without set i small k =
    holds_xor (bit_or set ((1 * 2 ^ i) % 2 ^ 64)) ((1 * 2 ^ i) % 2 ^ 64) k
    ∙ ap₂ one_of (holds_with set i small k) (ap (λ x. holds x k) (one_shifted i small) ∙ holds_one i k)
    ∙ taken_out (eqb k i) (holds set k)

-- The set of all numbers below `count`.
pub holds_below : (count k : ℕ) → k < count → holds (2 ^ count - 1) k ≡ true
holds_below zero k h = absurd (omega arith)
holds_below (suc count) zero h =
    holds_zero (2 ^ suc count - 1)
    ∙ ap (λ x. eqb x 1) (odd (2 ^ count) (2 ^ suc count) (pow_pos count) (pow-suc 2 count))
  where
    odd : (p q : ℕ) → 0 < p → q ≡ p * 2 → (q - 1) % 2 ≡ 1
    odd p q h e = omega arith
holds_below (suc count) (suc k) h =
    holds_suc (2 ^ suc count - 1) k
    ∙ ap (λ x. holds x k) (half (2 ^ count) (2 ^ suc count) (pow_pos count) (pow-suc 2 count))
    ∙ holds_below count k (omega arith)
  where
    half : (p q : ℕ) → 0 < p → q ≡ p * 2 → (q - 1) / 2 ≡ p - 1
    half p q h e = omega arith

-- A set of numbers below `count` holds none from there on.
pub holds_beyond : (set count k : ℕ) → set < 2 ^ count → count ≤ k → holds set k ≡ false
unfolding holds
holds_beyond set count k small beyond =
    let reach : 2 ^ count ≤ 2 ^ k = pow_mono beyond in
    let less : set < 2 ^ k = omega arith in
    ap (λ x. eqb (x % 2) 1) (div-eq_of_lt less)

-- The set `ALL` holds every number below 64.
pub holds_all : (k : ℕ) → k < 64 → holds 18446744073709551615 k ≡ true
holds_all k h = holds_below 64 k h

-- What lies from one number on, brought down to 0.
pub holds_shifted : (set from k : ℕ) → holds (set / 2 ^ from) k ≡ holds set (from + k)
holds_shifted set zero k = ap₂ holds (div-one set) (sym (zero-add k))
holds_shifted set (suc from) k =
    ap (λ x. holds x k) (ap (λ p. set / p) (pow-succ' 2 from) ∙ sym (div-div-eq-div-mul set 2 (2 ^ from)))
    ∙ holds_shifted (set / 2) from k
    ∙ sym (holds_suc set (from + k))
    ∙ ap (holds set) (sym (suc-add from k))
