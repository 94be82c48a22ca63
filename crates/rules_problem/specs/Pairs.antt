-- One pair of a byte string, by its number.
-- Main definition: `pair_there`. Assumes nothing.
use Rattle.std.specs.Prelude.{List, ℕ, ◌+◌, ◌-◌, ◌*◌}
use Rattle.answer.specs.declared.Refusal.{Refusal}
use Rattle.fraction.specs.Made.{Made}
use Rattle.rules_problem.specs.Problem.{Pair, pair_at}

-- pair k, counted from 1, as the rule makes it
unfoldable pub pair_there : List ℕ → (n k : ℕ) → Made Refusal Pair
pair_there bytes n k = pair_at bytes n k (32 + 64 * n + 16 * (k - 1))
