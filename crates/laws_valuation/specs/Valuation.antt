-- Valuations: exact fractions for the terms, as a reading gives them once each number is divided by the divisor.
-- Main definitions: `lin`, `Valuation`. Assumes nothing.
use Rattle.std.specs.Prelude.{◌≡◌, List, map, ℕ, ◌<◌, length, T}
use Rattle.fraction.specs.Exact.{ℚ, one_ℚ, worth, ◌+ℚ◌, ◌-ℚ◌, ◌*ℚ◌}
use Rattle.rules_problem.specs.declared.Kind.{Kind}
use Rattle.rules_problem.specs.declared.Kind.TheVariants.{Variable, Constant, Gain, Sum, Difference, Lookup1, Lookup2, Lookup3}
use Rattle.rules_problem.specs.declared.Term.{Term}
use Rattle.rules_problem.specs.Lookup.{alike, inputs_of, kind_at}

-- A term as a linear function of its inputs: `of i` is what input i counts, `unit` what the constant 1 counts, `own` what the
-- term itself counts, which an unknown is free to choose. Values use it with unit 1, column c of rows with the unit's column c.
unfoldable pub lin : Kind → (of : ℕ → ℚ) → (unit own : ℚ) → ℚ
lin (Variable symbol) of unit own = own
lin (Constant held) of unit own = worth held *ℚ unit
lin (Gain factor input) of unit own = worth factor *ℚ of input
lin (Sum left right) of unit own = of left +ℚ of right
lin (Difference left right) of unit own = of left -ℚ of right
lin (Lookup1 symbol input) of unit own = own
lin (Lookup2 symbol first second) of unit own = own
lin (Lookup3 symbol first second third) of unit own = own

-- The clauses of a reading, over fractions.
pub record Valuation (terms : List Term) (v : ℕ → ℚ) : Type 0 where
  pub obeys : (t : ℕ) → t < length terms → v t ≡ lin (kind_at terms t) v one_ℚ (v t)
  pub congruent : (i j : ℕ) → i < j → j < length terms → T (alike (kind_at terms i) (kind_at terms j)) → map v (inputs_of (kind_at terms i)) ≡ map v (inputs_of (kind_at terms j)) → v i ≡ v j
