-- What the steps of the reader ask for, and what they ensure.
-- Main definitions: `HeaderRead`, `Framed`. Assume nothing.
use Rattle.std.specs.Prelude.{◌≡◌, List, ◌+◌, ◌*◌, ◌≤◌, ℕ, length}
use Rattle.rules_problem.specs.Bits.{field}
use Rattle.record_reader.specs.declared.Header.{Header}

-- The four bytes of the header.
pub record HeaderRead (bytes : List ℕ) (h : Header) : Type 0 where
  pub terms : h.n ≡ field bytes 0 8
  pub pairs : h.m ≡ field bytes 8 8
  pub left : h.left ≡ field bytes 16 8
  pub right : h.right ≡ field bytes 24 8

-- A byte string that passes tests 2 to 4.
pub record Framed (bytes : List ℕ) (h : Header) : Type 0 where
  pub header : HeaderRead bytes h
  pub some_term : 1 ≤ h.n
  pub few_terms : h.n ≤ 64
  pub few_pairs : h.m ≤ 64
  pub whole : length bytes ≡ 4 + 8 * h.n + 2 * h.m
