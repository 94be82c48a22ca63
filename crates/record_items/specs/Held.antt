-- A term and a pair of a problem that a byte string holds.
-- Main definitions: `TermHeld`, `PairHeld`, `as_pair`. Assumes nothing.
use Rattle.std.specs.Prelude.{◌≡◌, List, ℕ, ◌<◌, ◌≤◌}
use Rattle.rules_problem.specs.Bits.{field}
use Rattle.rules_problem.specs.Problem.{Pair}
use Rattle.record_reader.specs.Held.{Held}
use Rattle.record_items.specs.declared.Sides.{Sides}

-- the problem has a term t
pub record TermHeld (bytes : List ℕ) (t : ℕ) : Type 0 where
  pub held : Held bytes
  pub below : t < field bytes 0 8

-- it has n terms, and a pair k, counted from 1
pub record PairHeld (bytes : List ℕ) (n k : ℕ) : Type 0 where
  pub held : Held bytes
  pub terms : n ≡ field bytes 0 8
  pub least : 1 ≤ k
  pub most : k ≤ field bytes 8 8

unfoldable pub as_pair : Sides → Pair
as_pair s = record { left = s.left; right = s.right }
