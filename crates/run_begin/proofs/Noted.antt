-- The lookups of a problem that is decoded, noted as numbers: symbols are bytes, inputs are terms.
-- Main results: `decoded_symbols`, `decoded_inputs`, `decoded_lookups`. Assume nothing.
use mathlib.Core.Path.{◌≡◌, refl, sym, ◌∙◌}
use mathlib.Core.List.{List, [], ◌∷◌, Memᴰ}
use Prim.Native.Nat.{ℕ, zero, suc, ◌+◌, ◌*◌, ◌<◌}
use native.Mathlib.Omega.{arith}
use lib.ListN.{get_or}
use Rattle.fraction.specs.Made.{made}
use Rattle.rules_problem.specs.declared.Kind.{Kind}
use Rattle.rules_problem.specs.declared.Kind.TheVariants.{Variable, Constant, Gain, Sum, Difference, Lookup1, Lookup2, Lookup3}
use Rattle.rules_problem.specs.declared.Term.{Term}
use Rattle.rules_problem.specs.Bits.{field}
use Rattle.rules_problem.specs.Lookup.{call_of, inputs_of, kind_at}
use Rattle.rules_problem.specs.Record.{Fields, fields_at}
use Rattle.rules_problem.proofs.Recorded.{Recorded, variable, constant, gain, sum, difference, lookup1, lookup2, lookup3, term_recorded}
use Rattle.rules_problem.specs.Problem.{Problem, decoded}
use Rattle.rules_problem.proofs.Widths.{field_below}
use Rattle.rules_problem.proofs.Holding.{terms_count, term_there}
use Rattle.laws_valuation.specs.Written.{all_inputs}
use Rattle.laws_valuation.proofs.Decoded.{decoded_sound}
use Rattle.run_table.specs.Notes.{input_of, symbol_of, LookupsNoted, Lookups, InputsBelow}
use Rattle.run_due_pair.proofs.Heads.{inputs_below}

kind_small : {own : ℕ} {f : Fields} {kind : Kind} → f.symbol < 256 → Recorded own f kind → symbol_of kind < 256
unfolding symbol_of call_of
kind_small small variable = omega arith
kind_small small constant = omega arith
kind_small small (gain below) = omega arith
kind_small small (sum below) = omega arith
kind_small small (difference below) = omega arith
kind_small small (lookup1 below) = small
kind_small small (lookup2 below) = small
kind_small small (lookup3 below) = small

-- a place of a list whose members are below n, or past its end
place_below : (n : ℕ) → 0 < n → (list : List ℕ) → ((x : ℕ) → Memᴰ x list → x < n) → (i : ℕ) → get_or list i 0 < n
place_below n some_term [] below i = some_term
place_below n some_term (x ∷ list) below zero = below x (Memᴰ.head refl)
place_below n some_term (x ∷ list) below (suc i) = place_below n some_term list (λ y m. below y (Memᴰ.tail m)) i

-- the inputs of a lookup are those of the term
input_below : (n : ℕ) → 0 < n → (kind : Kind) → ((x : ℕ) → Memᴰ x (all_inputs kind) → x < n) → (i : ℕ) → input_of kind i < n
unfolding input_of inputs_of call_of all_inputs
input_below n some_term (Variable symbol) below i = some_term
input_below n some_term (Constant held) below i = some_term
input_below n some_term (Gain factor input) below i = some_term
input_below n some_term (Sum left right) below i = some_term
input_below n some_term (Difference left right) below i = some_term
input_below n some_term (Lookup1 symbol input) below i = place_below n some_term (input ∷ []) below i
input_below n some_term (Lookup2 symbol first second) below i = place_below n some_term (first ∷ second ∷ []) below i
input_below n some_term (Lookup3 symbol first second third) below i = place_below n some_term (first ∷ second ∷ third ∷ []) below i

module _ (bytes : List ℕ) (problem : Problem) (held : decoded bytes ≡ made problem) {n : ℕ} (count : n ≡ field bytes 0 8) where
  -- 01, A term record: "symbol 8" bits.
  pub decoded_symbols : (t : ℕ) → t < n → symbol_of (kind_at problem.terms t) < 256
  unfolding kind_at fields_at
  decoded_symbols t below =
      let absent : Term = record { kind = Variable 0 } in
      kind_small (field_below bytes 8 (32 + 64 * t + 4)) (term_recorded bytes t (get_or problem.terms t absent) (term_there bytes problem held t (omega (arith, count, below)) absent))

  -- Each input of a lookup stands below it; where it has none, the place holds 0, which is a term.
  pub decoded_inputs : {heads inputs : List ℕ} → LookupsNoted problem.terms n heads inputs → InputsBelow n inputs
  decoded_inputs calls =
      let size = terms_count bytes problem held in
      inputs_below calls λ t i below place.
      input_below n (omega arith) (kind_at problem.terms t)
      (λ x m. omega (arith, below, (decoded_sound bytes problem held).written.earlier t (omega (arith, size, count, below)) x m)) i

  -- What is noted of a problem that is decoded are its lookups.
  pub decoded_lookups : {heads inputs : List ℕ} → LookupsNoted problem.terms n heads inputs → Lookups problem.terms n heads inputs
  decoded_lookups calls = record { count = terms_count bytes problem held ∙ sym count; calls = calls; symbols = decoded_symbols }
