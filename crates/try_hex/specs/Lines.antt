-- The lines of a text.
-- Main definitions: `line_length`, `LineEnds`. Assumes nothing.
use Rattle.std.specs.Prelude.{◌≡◌, cond, List, [], ◌∷◌, ℕ, suc, ◌≤◌, ◌<◌, eqb, length}

-- the bytes up to the first newline and with it; all of a text that has none
unfoldable pub line_length : (text : List ℕ) → ℕ
line_length [] = 0
line_length (b ∷ rest) = cond (eqb b 10) 1 (suc (line_length rest))

-- The first line of a text is `count` bytes long. The other two follow; whoever goes from line to line needs them.
pub record LineEnds (text : List ℕ) (count : ℕ) : Type 0 where
  pub counted : count ≡ line_length text
  pub inside : count ≤ length text
  pub onward : 0 < length text → 0 < count
