-- The greatest number of a set below an end.
-- Main results: `leading_within`, `top_last`, `last_all`, `last_below`, `last_determined`. Assume nothing.
use mathlib.Core.Path.{◌≡◌, sym, ap, ◌∙◌, subst}
use mathlib.Core.Bool.{true, false, ◌&&◌, and-true, and-false, false≢true, true≢false}
use Prim.Native.Nat.{ℕ, zero, suc, ◌+◌, ◌-◌, ◌*◌, ◌%◌, ◌^◌, ◌<◌, ◌≤◌}
use native.Mathlib.Nat.{pow-suc, div-eq_of_lt-le}
use native.Mathlib.Decide.{dec_lt}
use native.Mathlib.Omega.{arith}
use lib.Bits.{bit_and}
use lib.Count.{count_leading_zeros, leading_length, leading_le}
use lib.Dec.{eqb}
use lib.Pow.{pow_pos}
use Rattle.set_members.specs.Sets.{holds}
use Rattle.set_members.proofs.Digits.{holds_and, holds_below, holds_beyond}
use Rattle.set_extremes.specs.Extremes.{Last}

-- A number of just so many binary digits has the highest of them.
highest_inside : (set i : ℕ) → set < 2 ^ suc i → 2 ^ suc i ≤ 2 * set + 1 → holds set i ≡ true
unfolding holds
highest_inside set i small large =
    let twice : 2 ^ suc i ≡ 2 ^ i * 2 = pow-suc 2 i in
    let low : 1 * 2 ^ i ≤ set = omega arith in
    let high : set < (1 + 1) * 2 ^ i = omega arith in
    ap (λ x. eqb (x % 2) 1) (div-eq_of_lt-le (2 ^ i) low high)

pub leading_within : (set : ℕ) → count_leading_zeros 64 set ≤ 64
leading_within set = leading_le 64 set

-- The digits below the zeros at the head of a number reach as far as its set does.
pub top_last : (set : ℕ) → set < 2 ^ 64 → Last set 64 (64 - count_leading_zeros 64 set)
top_last set fits =
    let found = leading_length 64 set fits in
    let here : 64 - count_leading_zeros 64 set ≡ found.0 = omega (arith, found.1) in
    record {
      backward = omega arith;
      none_between = λ k above below. holds_beyond set found.0 k found.2 (omega arith);
      inside = λ some. ap (λ x. holds set (x - 1)) here ∙ by found.0 (omega arith) found.2 found.3;
    }
  where
    by : (m : ℕ) → 0 < m → set < 2 ^ m → 2 ^ m ≤ 2 * set + 1 → holds set (m - 1) ≡ true
    by zero some small large = absurd (omega arith)
    by (suc i) some small large =
        let e : suc i - 1 ≡ i = omega arith in
        rw e (highest_inside set i small large)

-- Below 64 lies the whole set.
pub last_all : {set end r : ℕ} → end ≡ 64 → Last set 64 r → Last set end r
last_all {set} {end} {r} all found = subst (λ e. Last set e r) (sym all) found

-- What is left below `end` has the same greatest number as the set has there.
module _ (set end r : ℕ) (small : end < 64) (found : Last (bit_and set (2 ^ end - 1)) 64 r) where
  below_held : (k : ℕ) → k < end → holds (bit_and set (2 ^ end - 1)) k ≡ holds set k
  below_held k h = holds_and set (2 ^ end - 1) k ∙ ap (λ b. holds set k && b) (holds_below end k h) ∙ and-true (holds set k)

  none_above : (k : ℕ) → end ≤ k → holds (bit_and set (2 ^ end - 1)) k ≡ false
  none_above k h =
      let some : 0 < 2 ^ end = pow_pos end in
      holds_and set (2 ^ end - 1) k ∙ ap (λ b. holds set k && b) (holds_beyond (2 ^ end - 1) end k (omega arith) h) ∙ and-false (holds set k)

  within_end : Dec (end < r) → r ≤ end
  within_end (yes beyond) = absurd (false≢true (sym (none_above (r - 1) (omega arith)) ∙ found.inside (omega arith)))
  within_end (no h) = omega arith

  pub last_below : Last set end r
  last_below =
      let most : r ≤ end = within_end (dec_lt end r) in
      record {
        backward = most;
        none_between = λ k above below. sym (below_held k below) ∙ found.none_between k above (omega arith);
        inside = λ some. sym (below_held (r - 1) (omega arith)) ∙ found.inside some;
      }

-- One number is one more than the greatest below an end.
pub last_determined : {set end r s : ℕ} → Last set end r → Last set end s → r ≡ s
last_determined {set} {end} {r} {s} one other = by (dec_lt r s) (dec_lt s r)
  where
    by : Dec (r < s) → Dec (s < r) → r ≡ s
    by (yes low) _ = absurd (true≢false (sym (other.inside (omega arith)) ∙ one.none_between (s - 1) (omega arith) (omega (arith, other.backward))))
    by (no _) (yes low) = absurd (true≢false (sym (one.inside (omega arith)) ∙ other.none_between (r - 1) (omega arith) (omega (arith, one.backward))))
    by (no l) (no u) = omega arith
