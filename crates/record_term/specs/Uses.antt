-- The table of kinds by what a kind uses.
-- Main definitions: `fits`, `sound_kind`, `judged`. Assume nothing.
use Rattle.std.specs.Prelude.{Bool, true, false, cond, ◌&&◌, List, [], ◌∷◌, ◌++◌, ℕ, take, drop, Option, None, Some}
use Rattle.std.proofs.Math.Option.{Option as Maybe, some, none}
use Rattle.rules_problem.specs.declared.Kind.{Kind}
use Rattle.rules_problem.specs.declared.Kind.TheVariants.{Variable, Constant, Gain, Sum, Difference, Lookup1, Lookup2, Lookup3}
use Rattle.rules_problem.specs.Record.{Fields}
use Rattle.record_term.specs.Terms.{all_zeros, below}

unfoldable pub inputs_of : Fields → List ℕ
inputs_of f = f.input1 ∷ f.input2 ∷ f.input3 ∷ []

-- the fields that are not used: the symbol, the inputs from a number on, the mantissa with its shift, and the padding
unfoldable pub unused : Fields → (symbol : Bool) (inputs : ℕ) (scaled : Bool) → List ℕ
unused f symbol inputs scaled =
    cond symbol [] (f.symbol ∷ []) ++ (drop inputs (inputs_of f) ++ (cond scaled [] (f.mantissa ∷ f.shift ∷ []) ++ (f.padding ∷ [])))

-- whether they are zero, and the inputs that are used lie below `own`
unfoldable pub fits : (own : ℕ) → Fields → (symbol : Bool) (inputs : ℕ) (scaled : Bool) → Bool
fits own f symbol inputs scaled = all_zeros (unused f symbol inputs scaled) && below own (take inputs (inputs_of f))

unfoldable pub sound_kind : (own : ℕ) → Fields → Kind → Bool
sound_kind own f (Variable symbol) = fits own f true 0 false
sound_kind own f (Constant value) = fits own f false 0 true
sound_kind own f (Gain factor input) = fits own f false 1 true
sound_kind own f (Sum left right) = fits own f false 2 false
sound_kind own f (Difference left right) = fits own f false 2 false
sound_kind own f (Lookup1 symbol input) = fits own f true 1 false
sound_kind own f (Lookup2 symbol first second) = fits own f true 2 false
sound_kind own f (Lookup3 symbol first second third) = fits own f true 3 false

-- what a record is, by the kind that its fields say
unfoldable pub judged : (own : ℕ) → Fields → Option Kind → Maybe Kind
judged own f None = none
judged own f (Some kind) = cond (sound_kind own f kind) (some kind) none
