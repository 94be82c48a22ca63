-- How far the links of the lookups are noted.
-- Main definitions: `InputsSmall`, `UsedBelow`, `Traced`, `Opened`, `UsersGrown`. Assume nothing.
use Rattle.std.specs.Prelude.{◌≡◌, ◌⊎◌, true, List, ℕ, ◌+◌, ◌*◌, ◌≤◌, ◌<◌, length, get_or}
use Rattle.set_members.specs.Sets.{holds}
use Rattle.rules_run.specs.Row.{TERMS}
use Rattle.run_table.specs.Sets.{USERS, EARLIER, users_of, earlier_of, open_of}

-- each input noted of the terms below n has a set of users: it is the number of a term
pub record InputsSmall (n : ℕ) (inputs : List ℕ) : Type 0 where
  pub small : (k : ℕ) → k < 3 * n → get_or inputs k 0 < TERMS

-- lookup t is noted as a user of its inputs in the first `count` places
pub record UsedBelow (count t : ℕ) (inputs sets : List ℕ) : Type 0 where
  pub used : (i : ℕ) → i < count → holds (users_of sets (get_or inputs (3 * t + i) 0)) t ≡ true

-- of each lookup below n the earlier ones with its head are noted
pub record Traced (n : ℕ) (heads sets : List ℕ) : Type 0 where
  pub earlier : (i j : ℕ) → i < j → j < n → (get_or heads j 0 ≡ 0 → ⊥) → get_or heads i 0 ≡ get_or heads j 0 → holds (earlier_of sets j) i ≡ true

-- the lookups below n are open
pub record Opened (n : ℕ) (heads sets : List ℕ) : Type 0 where
  pub inside : (j : ℕ) → j < n → (get_or heads j 0 ≡ 0 → ⊥) → holds (open_of sets) j ≡ true

-- Some sets of users have grown; no other set has changed.
pub record UsersGrown (sets₀ sets : List ℕ) : Type 0 where
  pub same_length : length sets ≡ length sets₀
  pub more : (k j : ℕ) → holds (get_or sets₀ k 0) j ≡ true → holds (get_or sets k 0) j ≡ true
  pub others : (k : ℕ) → (k < USERS) ⊎ (EARLIER ≤ k) → get_or sets k 0 ≡ get_or sets₀ k 0
