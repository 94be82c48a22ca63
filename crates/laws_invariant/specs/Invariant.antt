-- The invariant of the run: what is true of the table after every step.
-- Main definitions: `is_unknown`, `Shaped`, `SidesBelow`, `OneToOne`, `Strict`, `ValuesMeet`, `Equates`, `NoneMeets`, `Unsolved`, `Lower`, `count`, `Invariant`, `Completed`, `Stopped`, `Ended`. Assumes nothing.
use Rattle.std.specs.Prelude.{◌≡◌, ◌≢◌, ◌⊎◌, Bool, true, false, ◌&&◌, cond, ℕ, zero, suc, ◌+◌, ◌≤◌, ◌<◌, length, take}
use mathlib.Core.List.{List, Memᴰ}
use Rattle.answer.specs.declared.Answer.{Answer}
use Rattle.answer.specs.declared.Answer.TheVariants.{Entailed, NotEntailed, Contradictory, Refused}
use Rattle.fraction.specs.Exact.{ℚ, zero_ℚ, one_ℚ, eq_ℚ}
use Rattle.fraction.specs.Limits.{Outside}
use Rattle.laws_linear.specs.Form.{eval}
use Rattle.rules_problem.specs.declared.Kind.{Kind}
use Rattle.rules_problem.specs.declared.Kind.TheVariants.{Variable, Constant, Gain, Sum, Difference, Lookup1, Lookup2, Lookup3}
use Rattle.rules_problem.specs.declared.Term.{Term}
use Rattle.rules_problem.specs.Lookup.{kind_at}
use Rattle.rules_problem.specs.Problem.{Pair}
use Rattle.laws_valuation.specs.Valuation.{lin, Valuation}
use Rattle.laws_valuation.specs.Written.{all_inputs}
use Rattle.rules_run.specs.Row.{TERMS, COLUMNS, Table, constant, cell}
use Rattle.rules_run.specs.Build.{alone}
use Rattle.rules_run.specs.Merge.{State, Stop, contradiction, outside}
use Rattle.rules_run.specs.Run.{Ranking}
use Rattle.laws_invariant.specs.Rows.{EqualCells, ClosedTable}

-- 01, The run: "Unknowns are variables and lookups."
unfoldable pub is_unknown : Kind → Bool
is_unknown (Variable symbol) = true
is_unknown (Constant held) = false
is_unknown (Gain factor input) = false
is_unknown (Sum left right) = false
is_unknown (Difference left right) = false
is_unknown (Lookup1 symbol input) = true
is_unknown (Lookup2 symbol first second) = true
is_unknown (Lookup3 symbol first second third) = true

-- What the tests of a record grant its terms.
pub record Shaped (terms : List Term) : Type 0 where
  -- there is a column for each: used where an unknown is read from its own column (build, the count)
  pub fits : length terms ≤ TERMS
  -- inputs stand below their own number: used in build, and for the values of inputs in closing
  pub earlier : (t : ℕ) → t < length terms → (i : ℕ) → Memᴰ i (all_inputs (kind_at terms t)) → i < t

-- the sides of all pairs are terms below n: used where an assumption is merged, for the values of both sides
unfoldable pub SidesBelow : (n : ℕ) → List Pair → Type 0
SidesBelow n pairs = (pair : Pair) → Memᴰ pair pairs → (pair.left < n) × (pair.right < n)

-- no two columns have the same rank: used for I2, where every other column of a solved form ranks lower
unfoldable pub OneToOne : (rank : ℕ → ℕ) → Type 0
OneToOne rank = (c k : ℕ) → c < TERMS → k < TERMS → rank c ≡ rank k → c ≡ k

-- whatever the terms are: what the laws of the whole run ask of a ranking
unfoldable pub Strict : Ranking → Type 0
Strict ranking = (terms : List Term) → OneToOne (ranking terms)

-- the values give both sides of each pair the same number
unfoldable pub ValuesMeet : (v : ℕ → ℚ) → List Pair → Type 0
ValuesMeet v pairs = (pair : Pair) → Memᴰ pair pairs → v pair.left ≡ v pair.right

-- every valuation that meets the pairs gives t and u the same number
unfoldable pub Equates : List Term → List Pair → (t u : ℕ) → Type 0
Equates terms pairs t u = (v : ℕ → ℚ) → Valuation terms v → ValuesMeet v pairs → v t ≡ v u

-- no valuation meets the pairs
unfoldable pub NoneMeets : List Term → List Pair → Type 0
NoneMeets terms pairs = (v : ℕ → ℚ) → Valuation terms v → ValuesMeet v pairs → ⊥

-- The unknown c is unsolved: its row is 1 at itself.
pub record Unsolved (terms : List Term) (table : Table) (c : ℕ) : Type 0 where
  pub below : c < length terms
  pub unknown : is_unknown (kind_at terms c) ≡ true
  pub itself : (k : ℕ) → k < COLUMNS → cell table c k ≡ alone c one_ℚ k

-- every column of row c that is not 0 has a rank below that of c
unfoldable pub Lower : (rank : ℕ → ℕ) → Table → (c : ℕ) → Type 0
Lower rank table c = (k : ℕ) → k < TERMS → cell table c k ≢ zero_ℚ → rank k < rank c

-- how many of the first n numbers pass the test
unfoldable pub count : (n : ℕ) → (ℕ → Bool) → ℕ
count zero test = 0
count (suc n) test = cond (test 0) 1 0 + count n (λ c. test (suc c))

-- c is an unknown, and no longer stands in its own row
unfoldable pub is_solved : List Term → Table → (c : ℕ) → Bool
is_solved terms table c = is_unknown (kind_at terms c) && eq_ℚ (cell table c c) zero_ℚ

-- What is true of the state once the assumptions `inForce` may be used and the assumptions `met` have been merged.
pub record Invariant (rank : ℕ → ℕ) (terms : List Term) (inForce met : List Pair) (state : State) : Type 0 where
  -- each term has a row
  pub sized : length state.table ≡ length terms
  -- I1: a column that is not 0 is that of an unsolved unknown
  pub columns : (t c : ℕ) → c < TERMS → cell state.table t c ≢ zero_ℚ → Unsolved terms state.table c
  -- I2: an unknown is unsolved, or its row has only columns of lower rank
  pub triangular : (c : ℕ) → c < length terms → is_unknown (kind_at terms c) ≡ true → Unsolved terms state.table c ⊎ Lower rank state.table c
  -- I3: the row of a constant, gain, sum, difference is that constant, multiple, sum, difference of rows
  pub arithmetic : (t c : ℕ) → t < length terms → c < COLUMNS → cell state.table t c ≡ lin (kind_at terms t) (λ i. cell state.table i c) (alone constant one_ℚ c) (cell state.table t c)
  -- I4: every valuation that meets the assumptions in force gives each term the value of its row
  pub sound : (v : ℕ → ℚ) → Valuation terms v → ValuesMeet v inForce → (t : ℕ) → t < length terms → v t ≡ eval TERMS (cell state.table t) v
  -- I5: the sides of each assumption met have equal rows
  pub equal : (pair : Pair) → Memᴰ pair met → EqualCells state.table pair.left pair.right
  -- I6: the count is the number of solved unknowns
  pub counted : state.solved ≡ count (length terms) (is_solved terms state.table)

-- The state after a closing: the invariant, and a closed table.
pub record Completed (rank : ℕ → ℕ) (terms : List Term) (inForce met : List Pair) (state : State) : Type 0 where
  pub invariant : Invariant rank terms inForce met state
  pub closed : ClosedTable terms state.table

-- What a stop means with the assumptions `inForce`: no valuation meets them, or a number was outside the limits.
unfoldable pub Stopped : List Term → (inForce : List Pair) → Stop → Type 0
Stopped terms inForce contradiction = NoneMeets terms inForce
Stopped terms inForce (outside number) = Outside number

-- What an answer means that a run stops with: no valuation meets the assumptions up to the place, or a number was outside the limits.
unfoldable pub Ended : List Term → List Pair → Answer → Type 0
Ended terms pairs (Entailed solved) = ⊥
Ended terms pairs (NotEntailed solved) = ⊥
Ended terms pairs (Contradictory place) = NoneMeets terms (take place pairs)
Ended terms pairs (Refused number place) = Outside number
