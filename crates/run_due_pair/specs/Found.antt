-- The search for the pair due, on lookups as numbers.
-- Main definitions: `same_inputs`, `left_for`, `left_among`, `Due`, `pair_of`, `PairBelow`, `RightPassed`. Assume nothing.
use Rattle.std.specs.Prelude.{◌≡◌, ◌≢◌, Bool, not, cond, ◌&&◌, List, ℕ, ◌+◌, ◌*◌, ◌<◌, eqb, length, get_or, Option as Optional, Some, None}
use Rattle.std.proofs.Math.Option.{Option, some, none}
use Rattle.set_members.specs.Sets.{holds}
use Rattle.rules_problem.specs.declared.Term.{Term}
use Rattle.rules_problem.specs.Problem.{Pair}
use Rattle.rules_run.specs.Row.{Table, same_row}
use Rattle.rules_run.specs.Close.{is_due, first}
use Rattle.run_table.specs.Sets.{RIGHTS}
use Rattle.run_due_pair.specs.declared.Pair.{Pair as Found}

-- place k of the inputs of terms i and j: terms with equal rows
unfoldable pub same_input : Table → (inputs : List ℕ) → (i j k : ℕ) → Bool
same_input table inputs i j k = same_row table (get_or inputs (3 * i + k) 0) (get_or inputs (3 * j + k) 0)

-- at each of the three places; places that a lookup does not use hold 0 on both sides
unfoldable pub same_inputs : Table → (inputs : List ℕ) → (i j : ℕ) → Bool
same_inputs table inputs i j = same_input table inputs i j 0 && (same_input table inputs i j 1 && same_input table inputs i j 2)

-- the pair i, j, if it is due
unfoldable pub pair_for : List Term → Table → (j i : ℕ) → Option Pair
pair_for terms table j i = cond (is_due terms table i j) (some (record { left = i; right = j })) none

-- the pair due of the smallest i below j
unfoldable pub left_for : List Term → Table → (j : ℕ) → Option Pair
left_for terms table j = first j 0 (pair_for terms table j)

-- the same, of the smallest i that is one of some lookups
unfoldable pub pair_among : (lefts : ℕ) → List Term → Table → (j i : ℕ) → Option Pair
pair_among lefts terms table j i = cond (holds lefts i) (pair_for terms table j i) none

unfoldable pub left_among : (lefts : ℕ) → List Term → Table → (j : ℕ) → Option Pair
left_among lefts terms table j = first j 0 (pair_among lefts terms table j)

-- what the search answers: a pair that it found, or that there is none
abbrev pub Due : Type 0
Due = Optional Found

-- the same, as the rule has it
unfoldable pub pair_of : Due → Option Pair
pair_of (Some pair) = some (record { left = pair.left; right = pair.right })
pair_of None = none

-- a pair found is i < j < n
unfoldable pub PairBelow : (n : ℕ) → Due → Type 0
PairBelow n (Some pair) = (pair.left < pair.right) × (pair.right < n)
PairBelow n None = Unit {0}

-- No lookup waits to be compared with j any more; what else waits stays.
pub record RightPassed (j : ℕ) (waiting₀ waiting : List ℕ) : Type 0 where
  pub same_length : length waiting ≡ length waiting₀
  pub here : get_or waiting j 0 ≡ 0
  pub others : (k : ℕ) → k ≢ j → k ≢ RIGHTS → get_or waiting k 0 ≡ get_or waiting₀ k 0
  pub rights : (k : ℕ) → holds (get_or waiting RIGHTS 0) k ≡ (not (eqb k j) && holds (get_or waiting₀ RIGHTS 0) k)
