-- When two byte strings hold the same problem up to the order of its pairs, their repeats and their sides: said of the bytes.
-- Main definition: `SameBytes`. Assumes nothing.
use Rattle.std.specs.Prelude.{◌≡◌, ◌≢◌, ◌⊎◌, List, ℕ, ◌+◌, ◌*◌, ◌<◌, get_or}
use Rattle.rules_problem.specs.Bits.{field}

unfoldable pub byte_at : List ℕ → (i : ℕ) → ℕ
byte_at bytes i = get_or bytes i 0

-- 01: "Header, 4 bytes: term count n (1 to 64), assumption count m (0 to 64), goal left, goal right."
unfoldable pub term_count : List ℕ → ℕ
term_count bytes = field bytes 0 8

unfoldable pub pair_count : List ℕ → ℕ
pair_count bytes = field bytes 8 8

-- "Then n term records of 64 bits. Then m pairs: left term, right term, 8 bits each."
unfoldable pub left_byte : List ℕ → (k : ℕ) → ℕ
left_byte bytes k = byte_at bytes (4 + 8 * term_count bytes + 2 * k)

unfoldable pub right_byte : List ℕ → (k : ℕ) → ℕ
right_byte bytes k = byte_at bytes (4 + 8 * term_count bytes + 2 * k + 1)

-- pair k of the first string stands at place l of the second, in one order of its sides or the other
unfoldable pub SamePair : (bytes bytes' : List ℕ) (k l : ℕ) → Type 0
SamePair bytes bytes' k l =
    ((left_byte bytes k ≡ left_byte bytes' l) × (right_byte bytes k ≡ right_byte bytes' l))
    ⊎ ((left_byte bytes k ≡ right_byte bytes' l) × (right_byte bytes k ≡ left_byte bytes' l))

-- every pair of the first string stands in the second
unfoldable pub PairsIn : (bytes bytes' : List ℕ) → Type 0
PairsIn bytes bytes' = (k : ℕ) → k < pair_count bytes → (l : ℕ) × (l < pair_count bytes') × SamePair bytes bytes' k l

-- Demand 3: "Same terms, goal and set of assumed pairs, whatever order, repeats and sides"
pub record SameBytes (bytes bytes' : List ℕ) : Type 0 where
  -- header and term records are the same byte for byte, but for byte 1, the assumption count
  pub before : (i : ℕ) → i < 4 + 8 * term_count bytes → i ≢ 1 → byte_at bytes i ≡ byte_at bytes' i
  pub there : PairsIn bytes bytes'
  pub back : PairsIn bytes' bytes
