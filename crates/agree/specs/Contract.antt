-- What the program promises of the bytes that it writes.
-- Main definition: `Prints`. Assumes nothing.
use Rattle.std.specs.Prelude.{◌≡◌, List, ℕ, ◌≤◌, length, take}
use Rattle.rules_run.specs.Run.{highest_number}
use Rattle.rules_listing.specs.Listing.{listing}

-- The bytes of the text before the end answered are what the rules lay down for the byte string.
pub record Prints (bytes text : List ℕ) (end : ℕ) : Type 0 where
  pub within : end ≤ length text
  pub printed : take end text ≡ listing highest_number bytes
