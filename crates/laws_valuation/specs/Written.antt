-- Terms as a sound record writes them: inputs below the term's own number.
-- Main definitions: `all_inputs`, `Written`. Assumes nothing.
use mathlib.Core.List.{List, [], ◌∷◌, Memᴰ}
use Rattle.std.specs.Prelude.{ℕ, ◌<◌, length}
use Rattle.rules_problem.specs.declared.Kind.{Kind}
use Rattle.rules_problem.specs.declared.Kind.TheVariants.{Variable, Constant, Gain, Sum, Difference, Lookup1, Lookup2, Lookup3}
use Rattle.rules_problem.specs.declared.Term.{Term}
use Rattle.rules_problem.specs.Lookup.{kind_at}

-- the inputs of a term of any kind
unfoldable pub all_inputs : Kind → List ℕ
all_inputs (Variable symbol) = []
all_inputs (Constant held) = []
all_inputs (Gain factor input) = input ∷ []
all_inputs (Sum left right) = left ∷ right ∷ []
all_inputs (Difference left right) = left ∷ right ∷ []
all_inputs (Lookup1 symbol input) = input ∷ []
all_inputs (Lookup2 symbol first second) = first ∷ second ∷ []
all_inputs (Lookup3 symbol first second third) = first ∷ second ∷ third ∷ []

-- What the test of each record grants: 01, "faulty (..) with an input not below its own number".
pub record Written (terms : List Term) : Type 0 where
  pub earlier : (t : ℕ) → t < length terms → (i : ℕ) → Memᴰ i (all_inputs (kind_at terms t)) → i < t
