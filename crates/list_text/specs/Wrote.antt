-- What writing a text into a buffer asks for, and what it ensures.
-- Main definitions: `Fits`, `Wrote`. Assumes nothing.
use Rattle.std.specs.Prelude.{◌≡◌, List, ℕ, ◌+◌, ◌≤◌, length}
use Rattle.rules_listing.specs.Listing.{put_at}

-- There is room for the text at the place.
pub record Fits (text : List ℕ) (place : ℕ) (buffer : List ℕ) : Type 0 where
  pub room : place + length text ≤ length buffer

-- The text stands at the place, every other byte is as it was, and the next place is the one behind the text.
pub record Wrote (text : List ℕ) (place : ℕ) (before after : List ℕ) (next : ℕ) : Type 0 where
  pub placed : after ≡ put_at place text before
  pub reached : next ≡ place + length text
