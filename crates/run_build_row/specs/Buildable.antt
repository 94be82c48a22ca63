-- What a term must be for its row to be built.
-- Main definitions: `FractionOf`, `InputsEarlier`, `Buildable`, `FactorOf`, `Combined`. Assumes nothing.
use Rattle.std.specs.Prelude.{◌≡◌, ℕ, ◌<◌}
use Rattle.fraction.specs.declared.Fraction.{Fraction}
use Rattle.fraction.specs.declared.Scaled.{Scaled}
use Rattle.fraction.specs.Exact.{worth}
use Rattle.fraction.specs.InRecord.{InRecord}
use Rattle.fraction_reduce.specs.Values.{value, Good}
use Rattle.rules_problem.specs.declared.Kind.{Kind}
use Rattle.rules_problem.specs.declared.Kind.TheVariants.{Variable, Constant, Gain, Sum, Difference, Lookup1, Lookup2, Lookup3}

-- the fraction of a constant or a gain is as P says
unfoldable pub FractionOf : (P : Scaled → Type 0) → Kind → Type 0
FractionOf P (Variable symbol) = Unit {0}
FractionOf P (Constant value) = P value
FractionOf P (Gain factor input) = P factor
FractionOf P (Sum left right) = Unit {0}
FractionOf P (Difference left right) = Unit {0}
FractionOf P (Lookup1 symbol input) = Unit {0}
FractionOf P (Lookup2 symbol first second) = Unit {0}
FractionOf P (Lookup3 symbol first second third) = Unit {0}

-- 01, The problem record: each input is below the term's own number
unfoldable pub InputsEarlier : (own : ℕ) → Kind → Type 0
InputsEarlier own (Variable symbol) = Unit {0}
InputsEarlier own (Constant value) = Unit {0}
InputsEarlier own (Gain factor input) = input < own
InputsEarlier own (Sum left right) = (left < own) × (right < own)
InputsEarlier own (Difference left right) = (left < own) × (right < own)
InputsEarlier own (Lookup1 symbol input) = input < own
InputsEarlier own (Lookup2 symbol first second) = (first < own) × (second < own)
InputsEarlier own (Lookup3 symbol first second third) = (first < own) × (second < own) × (third < own)

-- a term whose inputs lie before it, and whose fraction is one of a record
pub record Buildable (own : ℕ) (kind : Kind) : Type 0 where
  pub inputs : InputsEarlier own kind
  pub fraction : FractionOf InRecord kind

-- f is in lowest terms, and is what the fraction of a constant or a gain is worth
pub record FactorOf (kind : Kind) (f : Fraction) : Type 0 where
  pub good : Good f
  pub same : FractionOf (λ s. value f ≡ worth s) kind

-- a row that is made of earlier ones: a gain's, a sum's or a difference's
unfoldable pub Combined : Kind → Type 0
Combined (Variable symbol) = ⊥
Combined (Constant value) = ⊥
Combined (Gain factor input) = Unit {0}
Combined (Sum left right) = Unit {0}
Combined (Difference left right) = Unit {0}
Combined (Lookup1 symbol input) = ⊥
Combined (Lookup2 symbol first second) = ⊥
Combined (Lookup3 symbol first second third) = ⊥
