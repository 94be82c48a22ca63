-- Hexadecimal digits, `0` to `9` and `a` to `f`, and the bytes that pairs of them say.
-- Main definitions: `digit_of`, `byte_of`, `first_of`, `bytes_of`, `BytesRead`. Assume nothing.
use Rattle.std.specs.Prelude.{List, [], ◌∷◌, ℕ, ◌+◌, ◌*◌, ◌-◌, ◌&&◌, nat_le, if◌then◌else◌, length, take, Option, Some, None, option_and_then, option_map}
use Rattle.list_text.specs.Wrote.{Wrote}

-- the value of a digit
abbrev pub digit_of : (b : ℕ) → Option ℕ
digit_of b =
    if nat_le 48 b && nat_le b 57 then Some (b - 48)
    else if nat_le 97 b && nat_le b 102 then Some (b - 87)
    else None

-- the byte that two digits say
unfoldable pub byte_of : (high low : ℕ) → Option ℕ
byte_of high low = option_and_then (λ sixteens. option_map (λ ones. 16 * sixteens + ones) (digit_of low)) (digit_of high)

-- what a text says first
unfoldable pub first_of : (text : List ℕ) → Option ℕ
first_of [] = None
first_of (high ∷ []) = None
first_of (high ∷ low ∷ rest) = byte_of high low

-- what is said first, and the bytes that follow it
unfoldable pub followed_by : List ℕ → Option ℕ → List ℕ
followed_by rest (Some b) = b ∷ rest
followed_by rest None = []

-- the bytes that a text says, up to the first two places that are no digits
unfoldable pub bytes_of : (text : List ℕ) → List ℕ
bytes_of [] = []
bytes_of (high ∷ []) = []
bytes_of (high ∷ low ∷ rest) = followed_by (bytes_of rest) (byte_of high low)

-- The bytes that a text says stand at the start of a buffer, as many as it has room for: r of them. Every other byte is as it was.
abbrev pub BytesRead : (text before after : List ℕ) (r : ℕ) → Type 0
BytesRead text before after r = Wrote (take (length before) (bytes_of text)) 0 before after r
