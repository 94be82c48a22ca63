-- Texts as bytes, and numbers in decimal.
-- Main definitions: `ascii`, `decimal`. Assumes nothing.
use Rattle.std.specs.Prelude.{List, [], ◌∷◌, true, false, ℕ, zero, suc, ◌+◌, ◌/◌, ◌%◌, ltb}
use Prim.Native.Char.{code}
use Prim.Native.String.{String, [] as end, ◌∷◌ as char-then}

-- the bytes of a text
unfoldable pub ascii : String → List ℕ
ascii end = []
ascii (char-then c rest) = code c ∷ ascii rest

-- the last digits of n before `rest`, at most `most` of them
unfoldable pub digits : (most n : ℕ) → (rest : List ℕ) → List ℕ
digits zero n rest = rest
digits (suc most) n rest = elim (ltb n 10) [ true ↦ (48 + n) ∷ rest | false ↦ digits most (n / 10) ((48 + n % 10) ∷ rest) ]

-- n in decimal, without leading zeros
unfoldable pub decimal : (n : ℕ) → List ℕ
decimal n = digits (suc n) n []
