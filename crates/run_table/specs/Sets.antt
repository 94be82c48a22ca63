-- The sets of a run: which there are, and what each has to hold. `Serving` (in `Work`) is the invariant that takes it all together.
-- A set is a hint, of numbers below 64 (`holds`): one that holds more than it must costs time only, one that lacks a number makes closing
-- or a merge pass over what matters. So whoever writes a set may add to it, and has to show what it says below before it takes away.
-- Main definitions: `SETS`, `columns_of`, `users_of`, `earlier_of`, `pending_of`, `open_of`; `Within`, `Sparse`; `Linked`; `Twin`, `Shut`;
-- `Waits`, `Watched`; `Stirred`. Assume nothing.
use Rattle.std.specs.Prelude.{◌≡◌, ◌⊎◌, ◌≢◌, true, false, List, ℕ, ◌+◌, ◌*◌, ◌≤◌, ◌<◌, length, get_or, ℤ, pos}
use Rattle.std.proofs.Math.Option.{none}
use Rattle.set_members.specs.Sets.{holds}
use Rattle.rules_problem.specs.declared.Term.{Term}
use Rattle.rules_problem.specs.Lookup.{call_of, inputs_of, alike, kind_at}
use Rattle.rules_run.specs.Row.{TERMS, COLUMNS, Table, same_row}
use Rattle.rules_run.specs.Close.{same_rows, is_due}
use Rattle.run_table.specs.Held.{row_at}

-- The sets stand in one list,
abbrev pub SETS : ℕ
SETS = 194

-- a family of them behind the other, at the places that the code names too. (Numerals, so that they compute.)
abbrev pub USERS : ℕ
USERS = 64

abbrev pub EARLIER : ℕ
EARLIER = 128

abbrev pub PENDING : ℕ
PENDING = 192

abbrev pub OPEN : ℕ
OPEN = 193

-- Of term t: the columns of its row that may hold something else than 0;
unfoldable pub columns_of : (sets : List ℕ) → (t : ℕ) → ℕ
columns_of sets t = get_or sets t 0

-- the lookups that it is an input of;
unfoldable pub users_of : (sets : List ℕ) → (t : ℕ) → ℕ
users_of sets t = get_or sets (USERS + t) 0

-- the lookups before it of the same function.
unfoldable pub earlier_of : (sets : List ℕ) → (t : ℕ) → ℕ
earlier_of sets t = get_or sets (EARLIER + t) 0

-- And the lookups with an input whose row has changed since closing last looked at them;
unfoldable pub pending_of : (sets : List ℕ) → ℕ
pending_of sets = get_or sets PENDING 0

-- those not yet merged with a congruent one before them.
unfoldable pub open_of : (sets : List ℕ) → ℕ
open_of sets = get_or sets OPEN 0

-- What set t holds, the columns. In the row whose column 0 stands at `base`, the columns of terms that are not in the set hold 0.
pub record Within (set base : ℕ) (nums : List ℤ) : Type 0 where
  pub zero : (c : ℕ) → c < TERMS → holds set c ≡ false → get_or nums (base + c) (pos 0) ≡ pos 0

-- So it is with the row of each term below n.
pub record Sparse (n : ℕ) (nums : List ℤ) (sets : List ℕ) : Type 0 where
  pub within : (t : ℕ) → t < n → Within (columns_of sets t) (COLUMNS * t) nums

-- What users and earlier lookups hold, the links. Each lookup j below n is a user of each of its inputs, and each lookup before it with
-- its head is an earlier one.
pub record Linked (n : ℕ) (heads inputs sets : List ℕ) : Type 0 where
  pub users : (j k : ℕ) → j < n → k < 3 → (get_or heads j 0 ≡ 0 → ⊥)
      → holds (users_of sets (get_or inputs (3 * j + k) 0)) j ≡ true
  pub earlier : (i j : ℕ) → i < j → j < n → (get_or heads j 0 ≡ 0 → ⊥) → get_or heads i 0 ≡ get_or heads j 0
      → holds (earlier_of sets j) i ≡ true

-- What the open set holds. Twins are lookups i < j that closing has merged: of one function, inputs with equal rows place by place, and
-- equal rows of their own. Equal rows stay equal, so a pair that falls due with j falls due with i too, and that pair comes first: j need
-- not be looked at any more.
pub record Twin (terms : List Term) (table : Table) (i j : ℕ) : Type 0 where
  pub order : i < j
  pub similar : alike (kind_at terms i) (kind_at terms j) ≡ true
  pub inputs : same_rows table (inputs_of (kind_at terms i)) (inputs_of (kind_at terms j)) ≡ true
  pub own : same_row table i j ≡ true

-- A term that closing need not look at: no lookup at all, or one with a twin before it.
abbrev pub Shut : List Term → Table → (j : ℕ) → Type 0
Shut terms table j = (call_of (kind_at terms j) ≡ none) ⊎ ((i : ℕ) × Twin terms table i j)

-- What the pending set holds. While closing runs it notes pair by pair what it has yet to compare, in sets of its own: i waits for j where i
-- is in set j of `waiting` and j is in the last set, which tells for which lookups any waits. Between closings nothing waits.
abbrev pub RIGHTS : ℕ
RIGHTS = 64

pub record Waits (waiting : List ℕ) (i j : ℕ) : Type 0 where
  pub left : holds (get_or waiting j 0) i ≡ true
  pub right : holds (get_or waiting RIGHTS 0) j ≡ true

-- A pair that closing will look at: it waits, or one of its sides is pending, since an input row of it has changed.
abbrev pub Looked : (waiting sets : List ℕ) (i j : ℕ) → Type 0
Looked waiting sets i j = Waits waiting i j ⊎ ((holds (pending_of sets) i ≡ true) ⊎ (holds (pending_of sets) j ≡ true))

-- Closing will look at every pair of open lookups that is due.
abbrev pub Finds : (waiting : List ℕ) (terms : List Term) (n : ℕ) (table : Table) (sets : List ℕ) → Type 0
Finds waiting terms n table sets =
    (i j : ℕ) → i < j → j < n → is_due terms table i j ≡ true
    → holds (open_of sets) i ≡ true → holds (open_of sets) j ≡ true → Looked waiting sets i j

-- Nothing that is due escapes closing: it will look at every pair due of open lookups, and every other term below n is shut.
pub record Watched (waiting : List ℕ) (terms : List Term) (n : ℕ) (table : Table) (sets : List ℕ) : Type 0 where
  pub found : Finds waiting terms n table sets
  pub others : (j : ℕ) → j < n → holds (open_of sets) j ≡ false → Shut terms table j

-- What a step leaves of the sets: the links and the open lookups stay; nothing pending is forgotten; of each row below n that has
-- changed the users are pending.
pub record Stirred (n : ℕ) (nums₀ dens₀ nums dens : List ℤ) (sets₀ sets : List ℕ) : Type 0 where
  pub same_length : length sets ≡ length sets₀
  pub links : (k : ℕ) → USERS ≤ k → k ≢ PENDING → get_or sets k 0 ≡ get_or sets₀ k 0
  pub remembered : (j : ℕ) → holds (pending_of sets₀) j ≡ true → holds (pending_of sets) j ≡ true
  pub woken : (t : ℕ) → t < n
      → (row_at nums dens (COLUMNS * t) ≡ row_at nums₀ dens₀ (COLUMNS * t))
      ⊎ ((j : ℕ) → holds (users_of sets₀ t) j ≡ true → holds (pending_of sets) j ≡ true)
