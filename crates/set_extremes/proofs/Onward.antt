-- The least number of a set from one number on.
-- Main results: `none_beyond`, `none_left`, `found_onward`, `least_first`, `first_none`, `next_determined`. Assume nothing.
use mathlib.Core.Path.{◌≡◌, sym, ap, ◌∙◌}
use mathlib.Core.Bool.{false≢true, true≢false}
use Prim.Native.Nat.{ℕ, ◌+◌, ◌-◌, ◌/◌, ◌^◌, ◌<◌, ◌≤◌}
use native.Mathlib.Decide.{dec_lt}
use native.Mathlib.Omega.{arith}
use Rattle.set_members.specs.Sets.{holds}
use Rattle.set_members.proofs.Digits.{holds_none, holds_beyond, holds_shifted}
use Rattle.set_extremes.specs.Extremes.{Least, LeastBelow, Next}

module _ (set from : ℕ) where
  -- From 64 on there is nothing below 64.
  pub none_beyond : from ≡ 64 → Next set from 64
  none_beyond at =
      record {
        forward = omega arith;
        most = omega arith;
        none_between = λ k above below. absurd (omega arith);
        inside = λ below. absurd (omega arith);
      }

  -- a number from `from` on, from there
  onward : (k : ℕ) → from ≤ k → holds (set / 2 ^ from) (k - from) ≡ holds set k
  onward k above =
      let there : from + (k - from) ≡ k = omega arith in
      holds_shifted set from (k - from) ∙ ap (holds set) there

  -- Nothing is left from there on.
  pub none_left : from ≤ 64 → set / 2 ^ from ≡ 0 → Next set from 64
  none_left small none =
      record {
        forward = small;
        most = omega arith;
        none_between = λ k above below. sym (onward k above) ∙ ap (λ s. holds s (k - from)) none ∙ holds_none (k - from);
        inside = λ below. absurd (omega arith);
      }

  -- A set of numbers below 64 holds no other.
  pub onward_most : {i : ℕ} → set < 2 ^ 64 → Least (set / 2 ^ from) i → from + i < 64
  onward_most {i} fits least = by (dec_lt (from + i) 64)
    where
      by : Dec (from + i < 64) → from + i < 64
      by (yes below) = below
      by (no beyond) = absurd (false≢true (sym (holds_beyond set 64 (from + i) fits (omega arith)) ∙ sym (holds_shifted set from i) ∙ least.inside))

  -- The least of what is left.
  pub found_onward : {i : ℕ} → set < 2 ^ 64 → LeastBelow (set / 2 ^ from) i → Next set from (from + i)
  found_onward {i} fits found =
      record {
        forward = omega arith;
        most = omega (arith, onward_most fits found.least);
        none_between = λ k above below. sym (onward k above) ∙ found.least.none_below (k - from) (omega arith);
        inside = λ below. sym (holds_shifted set from i) ∙ found.least.inside;
      }

-- The least number of a set is the first from 0 on.
pub least_first : {set i : ℕ} → LeastBelow set i → Next set 0 i
least_first found =
    record {
      forward = omega arith;
      most = omega arith;
      none_between = λ k above under. found.least.none_below k under;
      inside = λ low. found.least.inside;
    }

-- The empty set has none.
pub first_none : {set : ℕ} → set ≡ 0 → Next set 0 64
first_none empty =
    record {
      forward = omega arith;
      most = omega arith;
      none_between = λ k above below. ap (λ s. holds s k) empty ∙ holds_none k;
      inside = λ below. absurd (omega arith);
    }

-- A set has one least number from a number on.
pub next_determined : {set from r s : ℕ} → Next set from r → Next set from s → r ≡ s
next_determined {set} {from} {r} {s} one other = by (dec_lt r s) (dec_lt s r)
  where
    by : Dec (r < s) → Dec (s < r) → r ≡ s
    by (yes low) _ = absurd (true≢false (sym (one.inside (omega (arith, other.most))) ∙ other.none_between r one.forward low))
    by (no _) (yes low) = absurd (true≢false (sym (other.inside (omega (arith, one.most))) ∙ one.none_between s other.forward low))
    by (no l) (no u) = omega arith
