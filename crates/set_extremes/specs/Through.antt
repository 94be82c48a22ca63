-- The loops through a set of numbers below 64: what each turn takes out of it.
-- Main definitions: `Takes`, `TakesLast`, `TakesColumn`. Assume nothing.
use Rattle.std.specs.Prelude.{◌≡◌, not, ◌&&◌, ℕ, ◌+◌, ◌^◌, ◌<◌, ◌≤◌, eqb, Option, Some, None, MatchOption}
use Rattle.set_members.specs.Sets.{holds}
use Rattle.set_extremes.specs.Extremes.{Next, Rest, Last}

-- A turn comes to `at`, the least number of the set, and leaves the others.
pub record Taken (set at after : ℕ) : Type 0 where
  pub below : at < 64
  pub first : Next set 0 at
  pub rest : Rest set after

-- A turn of a loop in rising order, or its end, where none is left.
abbrev pub Takes : (set : ℕ) → Option ℕ → (after : ℕ) → Type 0
Takes set r after = MatchOption r ((set ≡ 0) × (after ≡ 0)) (λ at. Taken set at after)

-- r is the greatest number in a set of numbers below 64.
pub record Greatest (set r : ℕ) : Type 0 where
  pub last : Last set 64 (r + 1)
  pub within : 2 ^ r ≤ set

-- A turn comes to `at`, the greatest number of the set, and leaves the others.
pub record TakenLast (set at after : ℕ) : Type 0 where
  pub last : Last set 64 (at + 1)
  pub rest : (k : ℕ) → holds after k ≡ (not (eqb k at) && holds set k)

-- A turn of a loop in falling order, or its end.
abbrev pub TakesLast : (set : ℕ) → Option ℕ → (after : ℕ) → Type 0
TakesLast set r after = MatchOption r ((set ≡ 0) × (after ≡ 0)) (λ at. TakenLast set at after)

-- The numbers left of a set, where a loop comes to the constant's column after them; none where it has come to that too.
abbrev pub set_left : Option ℕ → ℕ
set_left None = 0
set_left (Some set) = set

-- A turn comes to `at`, the least number of the set, and leaves the others; or to 64, where none is left, and leaves nothing.
pub record ColumnTaken (left : Option ℕ) (at : ℕ) (after : Option ℕ) : Type 0 where
  pub more : left ≡ Some (set_left left)
  pub first : Next (set_left left) 0 at
  pub rest : Rest (set_left left) (set_left after)
  pub over : MatchOption after (at ≡ 64) (λ _. at < 64)

-- A turn of a loop that comes last to the constant's column, or its end.
abbrev pub TakesColumn : (left : Option ℕ) → Option ℕ → (after : Option ℕ) → Type 0
TakesColumn left r after = MatchOption r ((left ≡ None) × (after ≡ None)) (λ at. ColumnTaken left at after)

-- No more columns come than this.
abbrev pub columns_left : Option ℕ → ℕ
columns_left None = 0
columns_left (Some set) = set + 1
