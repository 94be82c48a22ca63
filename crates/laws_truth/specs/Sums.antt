-- What the rows of a table count at a point, and weighted sums of terms and of rows.
-- Main definitions: `value_at`, `weighted`, `weighted_row`. Assumes nothing.
use Rattle.std.specs.Prelude.{ℕ}
use Rattle.fraction.specs.Exact.{ℚ, ◌+ℚ◌, ◌*ℚ◌}
use Rattle.rules_run.specs.Build.{alone}
use Rattle.laws_linear.specs.Form.{sum, eval}
use Rattle.rules_run.specs.Row.{TERMS, Table, cell}

-- the value of the row of term t where column c counts `a c`
unfoldable pub value_at : Table → (a : ℕ → ℚ) → (t : ℕ) → ℚ
value_at table a t = eval TERMS (cell table t) a

-- the sum of the first n numbers, each times its weight, plus a constant
unfoldable pub weighted : (n : ℕ) → (weight : ℕ → ℚ) → (k : ℚ) → (v : ℕ → ℚ) → ℚ
weighted n weight k v = sum n (λ t. weight t *ℚ v t) +ℚ k

-- column c of the same sum of the first n rows; the constant stands in the constant's column
unfoldable pub weighted_row : (n : ℕ) → (weight : ℕ → ℚ) → (k : ℚ) → Table → (c : ℕ) → ℚ
weighted_row n weight k table c = weighted n weight (alone TERMS k c) (λ t. cell table t c)
