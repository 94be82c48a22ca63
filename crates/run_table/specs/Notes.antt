-- The lookups of a problem, noted as numbers in two lists: for each term a head, and three inputs. Closing reads these numbers only.
-- Main definitions: `head_of`, `input_of`, `LookupsNoted`, `Lookups`, `InputsBelow`, `Notes`, `NotesKept`. Assume nothing.
use Rattle.std.specs.Prelude.{◌≡◌, List, ℕ, ◌+◌, ◌*◌, ◌≤◌, ◌<◌, length, get_or}
use Rattle.std.proofs.Math.Option.{some, none}
use Rattle.rules_problem.specs.declared.Kind.{Kind}
use Rattle.rules_problem.specs.declared.Term.{Term}
use Rattle.rules_problem.specs.Lookup.{call_of, inputs_of, kind_at}
use Rattle.rules_run.specs.Row.{TERMS}

-- 256 for each input, plus the symbol; 0 for a term that is no lookup. Lookups of one function have one head.
unfoldable pub head_of : Kind → ℕ
head_of kind = elim (call_of kind) [ none ↦ 0 | some call ↦ 256 * length call.inputs + call.symbol ]

-- input i of a lookup, from 0; 0 where there is none
unfoldable pub input_of : Kind → (i : ℕ) → ℕ
input_of kind i = get_or (inputs_of kind) i 0

-- the symbol of a lookup; 0 of a term that is none
unfoldable pub symbol_of : Kind → ℕ
symbol_of kind = elim (call_of kind) [ none ↦ 0 | some call ↦ call.symbol ]

-- The heads and inputs of the first n terms: head t at place t, its inputs at 3t, 3t + 1 and 3t + 2.
pub record LookupsNoted (terms : List Term) (n : ℕ) (heads inputs : List ℕ) : Type 0 where
  pub head : (t : ℕ) → t < n → get_or heads t 0 ≡ head_of (kind_at terms t)
  pub input : (t i : ℕ) → t < n → i < 3 → get_or inputs (3 * t + i) 0 ≡ input_of (kind_at terms t) i

-- The lists hold the lookups of just these n terms, whose symbols are bytes: so different functions have different heads.
pub record Lookups (terms : List Term) (n : ℕ) (heads inputs : List ℕ) : Type 0 where
  pub count : length terms ≡ n
  pub calls : LookupsNoted terms n heads inputs
  pub symbols : (t : ℕ) → t < n → symbol_of (kind_at terms t) < 256

-- Every input is a term.
pub record InputsBelow (n : ℕ) (inputs : List ℕ) : Type 0 where
  pub below : (t i : ℕ) → t < n → i < 3 → get_or inputs (3 * t + i) 0 < n

-- Notes that closing can work with: there is room for those of all terms, every input is a term, and there are n terms whose lookups they
-- are. So no head is the head of no kind, and what closing has to do is fixed.
pub record Notes (n : ℕ) (heads inputs : List ℕ) : Type 0 where
  pub heads_fit : TERMS ≤ length heads
  pub inputs_fit : 3 * TERMS ≤ length inputs
  pub below : InputsBelow n inputs
  pub terms : List Term
  pub lookups : Lookups terms n heads inputs

-- Both lists keep their lengths, and every place but those of the first n terms keeps what it holds.
pub record NotesKept (n : ℕ) (heads₀ inputs₀ heads inputs : List ℕ) : Type 0 where
  pub heads_length : length heads ≡ length heads₀
  pub inputs_length : length inputs ≡ length inputs₀
  pub heads_beyond : (k : ℕ) → n ≤ k → get_or heads k 0 ≡ get_or heads₀ k 0
  pub inputs_beyond : (k : ℕ) → 3 * n ≤ k → get_or inputs k 0 ≡ get_or inputs₀ k 0
