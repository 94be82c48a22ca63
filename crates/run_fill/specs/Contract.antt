-- What a fill asks for, and what it ensures.
-- Main definitions: `Fillable`, `Filled`. Assume nothing.
use Rattle.std.specs.Prelude.{◌≡◌, ◌⊎◌, List, ℕ, ◌≤◌, ◌<◌, length, get_or, ℤ, pos}

-- The list has the places from `from` up to `end`.
pub record Fillable (from end : ℕ) (list : List ℤ) : Type 0 where
  pub order : from ≤ end
  pub room : end ≤ length list

-- The places from `from` up to `end` hold x; every other place, and the length, are as before.
pub record Filled (from end : ℕ) (x : ℤ) (before after : List ℤ) : Type 0 where
  pub same_length : length after ≡ length before
  pub inside : (k : ℕ) → from ≤ k → k < end → get_or after k (pos 0) ≡ x
  pub outside : (k : ℕ) → (k < from) ⊎ (end ≤ k) → get_or after k (pos 0) ≡ get_or before k (pos 0)
