-- The starred cases of document 01: each with its bytes and what the decision says of it.
-- Main definitions: `Case`, `case_a` to `case_l`, `table`, `listing_a`. Assumes nothing.
use Rattle.std.specs.Prelude.{List, [], ◌∷◌, ℕ, zero, suc, ◌/◌, ◌%◌, ◌^◌}
use Prim.Native.String.{String}
use Rattle.answer.specs.Said.{Word, entailed, not_entailed, contradictory, Said}

-- `count` bytes, written as one number, most significant byte first
unfoldable pub bytes : (count number : ℕ) → List ℕ
bytes zero number = []
bytes (suc count) number = number / 256 ^ count % 256 ∷ bytes count number

pub record Case : Type 0 where
  pub problem : List ℕ
  pub says : Said

abbrev case : List ℕ → Word → (place count : ℕ) → Case
case problem word place count = record { problem = problem; says = record { word = word; place = place; count = count } }

-- 01, The listing: "Case A, 38 bytes"
unfoldable pub case_a : Case
unfolding bytes
case_a = case (bytes 38 0x04010102_1000000000000000_300000000FFFF300_6070100000000000_2000000000003100_0203) not_entailed 0 1

unfoldable pub listing_a : String
listing_a = "not-entailed 0 1\n0: +1*t0\n1: -1/8*t0\n2: +3/2\n3: +3/2\n"

-- f³(x)=f(x), goal f⁵(x)=f(x)
unfoldable pub case_b : Case
unfolding bytes
case_b = case (bytes 54 0x06010501_1000000000000000_6070000000000000_6070100000000000_6070200000000000_6070300000000000_6070400000000000_0301) entailed 0 3

-- f⁵(x)=x, f³(x)=x, goal f(x)=x
unfoldable pub case_c : Case
unfolding bytes
case_c = case (bytes 56 0x06020100_1000000000000000_6070000000000000_6070100000000000_6070200000000000_6070300000000000_6070400000000000_0500_0300) entailed 0 5

-- f(x-1)-1=x+1, f(y)+1=y-1, y+1=x
unfoldable pub case_d : Case
unfolding bytes
case_d = case (bytes 98 0x0b030000_1000000000000000_1000000000000000_2000000000001000_5000002000000000_6070300000000000_5000402000000000_4000002000000000_6070100000000000_4000702000000000_5000102000000000_4000102000000000_0506_0809_0a00) contradictory 3 0

-- f(v)=v, f(u)=u-1, u=v
unfoldable pub case_e : Case
unfolding bytes
case_e = case (bytes 58 0x06030000_1000000000000000_1000000000000000_6070000000000000_6070100000000000_2000000000001000_5000104000000000_0200_0305_0100) contradictory 3 0

-- x=y, f³(x)=f(x), goal f⁴(y)=f(x)
unfoldable pub case_h : Case
unfolding bytes
case_h = case (bytes 80 0x09020802_1000000000000000_1000000000000000_6070000000000000_6070200000000000_6070300000000000_6070100000000000_6070500000000000_6070600000000000_6070700000000000_0001_0402) not_entailed 0 6

-- two records of f(x), goal between them
unfoldable pub case_i : Case
unfolding bytes
case_i = case (bytes 28 0x03000102_1000000000000000_6070000000000000_6070000000000000) entailed 0 1

-- gain -1 shift 3 of t, goal equal to t minus 9/8 t;
unfoldable pub case_j : Case
unfolding bytes
case_j = case (bytes 36 0x04000103_1000000000000000_300000000ffff300_3000000000009300_5000002000000000) entailed 0 0

-- then to gain 1 shift 3
unfoldable pub case_j2 : Case
unfolding bytes
case_j2 = case (bytes 28 0x03000102_1000000000000000_300000000ffff300_3000000000001300) not_entailed 0 0

-- gain -32768 shift 15 of t, plus t, goal 0
unfoldable pub case_k : Case
unfolding bytes
case_k = case (bytes 36 0x04000203_1000000000000000_3000000008000f00_4000100000000000_2000000000000000) entailed 0 0

-- two variables, both with symbol 9, goal between them
unfoldable pub case_l : Case
unfolding bytes
case_l = case (bytes 20 0x02000001_1090000000000000_1090000000000000) not_entailed 0 0

unfoldable pub table : List Case
table = case_a ∷ case_b ∷ case_c ∷ case_d ∷ case_e ∷ case_h ∷ case_i ∷ case_j ∷ case_j2 ∷ case_k ∷ case_l ∷ []
