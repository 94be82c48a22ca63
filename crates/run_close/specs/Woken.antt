-- Lookups that are pending, noted pair by pair: what `wake` leaves of the sets, and of what waits.
-- Main definitions: `is_woken`, `Grown`, `RightWoken`, `Woken`. Assume nothing.
use Rattle.std.specs.Prelude.{◌≡◌, ◌≢◌, Bool, true, ◌&&◌, ◌||◌, List, ℕ, ◌<◌, length, get_or}
use Rattle.set_members.specs.Sets.{holds}
use Rattle.rules_run.specs.Row.{TERMS}
use Rattle.run_table.specs.Sets.{PENDING, earlier_of, pending_of, open_of, Waits}

-- whether lookup j is to be compared with i: an open one before it of its function, where one of the two is pending
abbrev pub is_woken : (sets : List ℕ) → (i j : ℕ) → Bool
is_woken sets i j = (holds (earlier_of sets j) i && holds (open_of sets) i) && (holds (pending_of sets) i || holds (pending_of sets) j)

-- Nothing that waits is forgotten.
pub record Grown (waiting₀ waiting : List ℕ) : Type 0 where
  pub same_length : length waiting ≡ length waiting₀
  pub keeps : (i j : ℕ) → j < TERMS → Waits waiting₀ i j → Waits waiting i j

-- The pairs of right side j that are to be compared wait, with those that did.
pub record RightWoken (j : ℕ) (sets waiting₀ waiting : List ℕ) : Type 0 where
  pub grown : Grown waiting₀ waiting
  pub adds : (i : ℕ) → is_woken sets i j ≡ true → Waits waiting i j

-- Of the open lookups below n all pairs wait that are to be compared, with those that did; none is pending, and nothing else of the
-- sets changes.
pub record Woken (n : ℕ) (sets₀ sets waiting₀ waiting : List ℕ) : Type 0 where
  pub same_length : length sets ≡ length sets₀
  pub asleep : pending_of sets ≡ 0
  pub others : (k : ℕ) → k ≢ PENDING → get_or sets k 0 ≡ get_or sets₀ k 0
  pub grown : Grown waiting₀ waiting
  pub adds : (i j : ℕ) → i < j → j < n → holds (open_of sets₀) j ≡ true → is_woken sets₀ i j ≡ true → Waits waiting i j
