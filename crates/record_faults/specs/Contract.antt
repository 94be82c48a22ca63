-- What looking for faults asks for, and what it ensures.
-- Main definitions: `RecordsThere`, `SidesThere`, `PairsThere`, `AllSound`, `First`. Assume nothing.
use Rattle.std.specs.Prelude.{◌≡◌, Bool, true, false, List, ℕ, ◌+◌, ◌*◌, ◌<◌, ◌≤◌, length, Option, MatchOption}

-- The records of n terms lie within the bytes.
pub record RecordsThere (bytes : List ℕ) (n : ℕ) : Type 0 where
  pub few : n ≤ 64
  pub there : 4 + 8 * n ≤ length bytes

-- The two sides of a pair lie within the bytes, from a bit that a problem can reach.
pub record SidesThere (bytes : List ℕ) (at : ℕ) : Type 0 where
  pub early : at ≤ 65536
  pub there : at + 16 ≤ 8 * length bytes

-- The pairs that follow n terms lie within the bytes.
pub record PairsThere (bytes : List ℕ) (n m : ℕ) : Type 0 where
  pub few_terms : n ≤ 64
  pub few_pairs : m ≤ 64
  pub there : 4 + 8 * n + 2 * m ≤ length bytes

-- Every index from `from` up to `end` is sound.
pub record AllSound (from end : ℕ) (sound : ℕ → Bool) : Type 0 where
  pub each : (k : ℕ) → from ≤ k → k < end → sound k ≡ true

-- The index t, from `from` up to `end`, is the lowest that is not sound.
pub record Lowest (from end : ℕ) (sound : ℕ → Bool) (t : ℕ) : Type 0 where
  pub least : from ≤ t
  pub most : t < end
  pub passed : AllSound from t sound
  pub there : sound t ≡ false

-- The lowest index from `from` up to `end` that is not sound, or none, where all are.
abbrev pub First : (from end : ℕ) (sound : ℕ → Bool) → Option ℕ → Type 0
First from end sound r = MatchOption r (AllSound from end sound) (Lowest from end sound)
