-- The least and the greatest number of a set of numbers.
-- Main definitions: `Least`, `LeastBelow`, `Next`, `Rest`, `Last`. Assume nothing.
use Rattle.std.specs.Prelude.{◌≡◌, true, false, not, ◌&&◌, ℕ, ◌-◌, ◌<◌, ◌≤◌, eqb}
use Rattle.set_members.specs.Sets.{holds}

-- i is the least number in the set.
pub record Least (set i : ℕ) : Type 0 where
  pub inside : holds set i ≡ true
  pub none_below : (k : ℕ) → k < i → holds set k ≡ false

-- i is the least number in a set of numbers below 64.
pub record LeastBelow (set i : ℕ) : Type 0 where
  pub below : i < 64
  pub least : Least set i

-- r is the least number in the set from `from` on, or 64, where there is none below 64.
pub record Next (set from r : ℕ) : Type 0 where
  pub forward : from ≤ r
  pub most : r ≤ 64
  pub none_between : (k : ℕ) → from ≤ k → k < r → holds set k ≡ false
  pub inside : r < 64 → holds set r ≡ true

-- r is the set without its least number.
pub record Rest (set r : ℕ) : Type 0 where
  pub others : (least : ℕ) → Next set 0 least → (k : ℕ) → holds r k ≡ (not (eqb k least) && holds set k)

-- r is one more than the greatest number in the set below `end`, or 0, where there is none.
pub record Last (set end r : ℕ) : Type 0 where
  pub backward : r ≤ end
  pub none_between : (k : ℕ) → r ≤ k → k < end → holds set k ≡ false
  pub inside : 0 < r → holds set (r - 1) ≡ true
