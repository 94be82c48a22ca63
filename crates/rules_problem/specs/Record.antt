-- A term record: its fields, when it is faulty, and the term that it holds.
-- Main definitions: `Fields`, `fields_at`, `termOf`. Assumes nothing.
use Rattle.std.specs.Prelude.{Bool, true, ◌&&◌, cond, List, [], ◌∷◌, ℕ, ◌+◌, get_or, eqb, ltb}
use Rattle.std.proofs.Math.Option.{Option, some, none}
use Rattle.fraction.specs.declared.Scaled.{Scaled}
use Rattle.rules_problem.specs.declared.Kind.{Kind}
use Rattle.rules_problem.specs.declared.Kind.TheVariants.{Variable, Constant, Gain, Sum, Difference, Lookup1, Lookup2, Lookup3}
use Rattle.rules_problem.specs.Bits.{field, signed16}

pub record Fields : Type 0 where
  pub kind : ℕ
  pub symbol : ℕ
  pub input1 : ℕ
  pub input2 : ℕ
  pub input3 : ℕ
  pub mantissa : ℕ
  pub shift : ℕ
  pub padding : ℕ

-- 01: "A term record: kind 4 bits, symbol 8, inputs one to three 8 each, mantissa 16 (..), shift 4, zero padding 8."
unfoldable pub fields_at : List ℕ → (p : ℕ) → Fields
fields_at bytes p =
    record {
      kind = field bytes p 4;
      symbol = field bytes (p + 4) 8;
      input1 = field bytes (p + 12) 8;
      input2 = field bytes (p + 20) 8;
      input3 = field bytes (p + 28) 8;
      mantissa = field bytes (p + 36) 16;
      shift = field bytes (p + 52) 4;
      padding = field bytes (p + 56) 8;
    }

-- "mantissa / 2^shift"
unfoldable pub scaled : Fields → Scaled
scaled f = record { mantissa = signed16 f.mantissa; shift = f.shift }

unfoldable pub every : (ℕ → Bool) → List ℕ → Bool
every test [] = true
every test (x ∷ rest) = test x && every test rest

-- "faulty (..) with a nonzero unused field or padding, or with an input not below its own number"
unfoldable pub unless_faulty : (own : ℕ) → (unused used : List ℕ) → Kind → Option Kind
unless_faulty own unused inputs kind = cond (every (λ x. eqb x 0) unused && every (λ i. ltb i own) inputs) (some kind) none

-- The table of kinds: for each kind from 0 the fields it does not use, the inputs it uses, and what it is.
-- "A record is faulty with kind 0 or 9 to 15": those have no row that is a term.
unfoldable pub kind_of : (own : ℕ) → Fields → Option Kind
kind_of own f =
    get_or
    (none
    ∷ unless_faulty own (f.input1 ∷ f.input2 ∷ f.input3 ∷ f.mantissa ∷ f.shift ∷ f.padding ∷ []) [] (Variable f.symbol)
    ∷ unless_faulty own (f.symbol ∷ f.input1 ∷ f.input2 ∷ f.input3 ∷ f.padding ∷ []) [] (Constant (scaled f))
    ∷ unless_faulty own (f.symbol ∷ f.input2 ∷ f.input3 ∷ f.padding ∷ []) (f.input1 ∷ []) (Gain (scaled f) f.input1)
    ∷ unless_faulty own (f.symbol ∷ f.input3 ∷ f.mantissa ∷ f.shift ∷ f.padding ∷ []) (f.input1 ∷ f.input2 ∷ []) (Sum f.input1 f.input2)
    ∷ unless_faulty own (f.symbol ∷ f.input3 ∷ f.mantissa ∷ f.shift ∷ f.padding ∷ []) (f.input1 ∷ f.input2 ∷ []) (Difference f.input1 f.input2)
    ∷ unless_faulty own (f.input2 ∷ f.input3 ∷ f.mantissa ∷ f.shift ∷ f.padding ∷ []) (f.input1 ∷ []) (Lookup1 f.symbol f.input1)
    ∷ unless_faulty own (f.input3 ∷ f.mantissa ∷ f.shift ∷ f.padding ∷ []) (f.input1 ∷ f.input2 ∷ []) (Lookup2 f.symbol f.input1 f.input2)
    ∷ unless_faulty own (f.mantissa ∷ f.shift ∷ f.padding ∷ []) (f.input1 ∷ f.input2 ∷ f.input3 ∷ []) (Lookup3 f.symbol f.input1 f.input2 f.input3)
    ∷ [])
    f.kind
    none
