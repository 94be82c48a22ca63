-- What the search for the unknown to solve ensures. (It asks for a difference that stands in two lists of its own, without a column outside
-- the set: `RowWithin` of `run_table`.)
-- Main definitions: `preferring`, `pivoted`, `Highest`, `FindsHighest`, `Pivots`. Assume nothing.
use Rattle.std.specs.Prelude.{◌≡◌, ◌≢◌, true, cond, ℕ, ◌+◌, ◌<◌, None, Option, Some}
use Rattle.std.proofs.Math.Option.{Option as Maybe, some, none}
use Rattle.set_members.specs.Sets.{holds}
use Rattle.fraction.specs.Exact.{zero_ℚ}
use Rattle.rules_run.specs.Row.{TERMS, column}
use Rattle.rules_run.specs.Merge.{pivot}
use Rattle.run_table.specs.Lists.{Lists, row_in, Unknown}

-- The rank of a column where some unknowns are preferred: its number, above all others if it is one of those.
unfoldable pub preferring : (preferred : ℕ) → (c : ℕ) → ℕ
preferring preferred c = cond (holds preferred c) (c + TERMS) c

-- the code's answer, as the rule's
unfoldable pub pivoted : Option ℕ → Maybe ℕ
pivoted (Some column) = some column
pivoted None = none

-- p is the highest column of the set that is not 0.
pub record Highest (set : ℕ) (d : Lists) (p : ℕ) : Type 0 where
  pub unknown : Unknown p set
  pub nonzero : column (row_in d 0) p ≢ zero_ℚ
  pub zero_above : (c : ℕ) → p < c → c < TERMS → holds set c ≡ true → column (row_in d 0) c ≡ zero_ℚ

-- The column found is the highest of the set that is not 0, or all of the set are 0.
pub record FindsHighest (set : ℕ) (d : Lists) (found : Option ℕ) : Type 0 where
  pub highest : (p : ℕ) → found ≡ Some p → Highest set d p
  pub zeros : found ≡ None → (c : ℕ) → c < TERMS → holds set c ≡ true → column (row_in d 0) c ≡ zero_ℚ

-- The unknown found is the rule's, or neither finds one; and it is in the set.
pub record Pivots (set preferred : ℕ) (d : Lists) (found : Option ℕ) : Type 0 where
  pub chosen : pivot (preferring preferred) TERMS (row_in d 0) ≡ pivoted found
  pub unknown : (p : ℕ) → found ≡ Some p → Unknown p set
