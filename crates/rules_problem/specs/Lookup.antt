-- Which terms are lookups of one function, and of which inputs.
-- Main definitions: `call_of`, `alike`, `inputs_of`, `kind_at`. Assumes nothing.
use Rattle.std.specs.Prelude.{Bool, false, ◌&&◌, List, [], ◌∷◌, ℕ, length, get_or, eqb}
use Rattle.std.proofs.Math.Option.{Option, some, none}
use Rattle.rules_problem.specs.declared.Kind.{Kind}
use Rattle.rules_problem.specs.declared.Kind.TheVariants.{Variable, Constant, Gain, Sum, Difference, Lookup1, Lookup2, Lookup3}
use Rattle.rules_problem.specs.declared.Term.{Term}

-- A lookup: the function of unknown content that it asks, and its inputs, place by place.
pub record Call : Type 0 where
  pub symbol : ℕ
  pub inputs : List ℕ

-- 01: "lookup of 1, 2, 3 inputs"; "The symbol of a variable is a remark for people: each variable record is an unknown of its own."
unfoldable pub call_of : Kind → Option Call
call_of (Variable symbol) = none
call_of (Constant value) = none
call_of (Gain factor input) = none
call_of (Sum left right) = none
call_of (Difference left right) = none
call_of (Lookup1 symbol input) = some (record { symbol = symbol; inputs = input ∷ [] })
call_of (Lookup2 symbol first second) = some (record { symbol = symbol; inputs = first ∷ second ∷ [] })
call_of (Lookup3 symbol first second third) = some (record { symbol = symbol; inputs = first ∷ second ∷ third ∷ [] })

unfoldable pub inputs_of : Kind → List ℕ
inputs_of kind = elim (call_of kind) [ none ↦ [] | some call ↦ call.inputs ]

-- "Lookups with one symbol but different kinds are different functions": the kind is the number of inputs
unfoldable pub same_function : Option Call → Option Call → Bool
same_function none g = false
same_function (some f) none = false
same_function (some f) (some g) = eqb f.symbol g.symbol && eqb (length f.inputs) (length g.inputs)

-- "two lookups of the same kind and symbol"
unfoldable pub alike : Kind → Kind → Bool
alike k l = same_function (call_of k) (call_of l)

-- what term t is; past the last term, a variable that nothing names
unfoldable pub kind_at : List Term → (t : ℕ) → Kind
kind_at terms t = (get_or terms t (record { kind = Variable 0 })).kind
