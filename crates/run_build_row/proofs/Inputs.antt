-- What a term that can be built has for the kind that a match found: inputs below its own number, and a fraction as it should be.
-- Main results: `gain_below`, `sum_left`, `sum_right`, `difference_left`, `difference_right`, `constant_holds`, `gain_holds`. Assume nothing.
use mathlib.Core.Path.{◌≡◌, subst}
use Prim.Native.Nat.{ℕ, ◌<◌}
use Rattle.fraction.specs.declared.Scaled.{Scaled}
use Rattle.rules_problem.specs.declared.Kind.{Kind}
use Rattle.rules_problem.specs.declared.Kind.TheVariants.{Constant, Gain, Sum, Difference}
use Rattle.run_build_row.specs.Buildable.{FractionOf, InputsEarlier}

module _ {own : ℕ} {kind : Kind} (inputs : InputsEarlier own kind) where
  pub gain_below : {factor : Scaled} {input : ℕ} → kind ≡ Gain factor input → input < own
  unfolding InputsEarlier
  gain_below is = subst (InputsEarlier own) is inputs

  pub sum_left : {left right : ℕ} → kind ≡ Sum left right → left < own
  unfolding InputsEarlier
  sum_left is = (subst (InputsEarlier own) is inputs).0

  pub sum_right : {left right : ℕ} → kind ≡ Sum left right → right < own
  unfolding InputsEarlier
  sum_right is = (subst (InputsEarlier own) is inputs).1

  pub difference_left : {left right : ℕ} → kind ≡ Difference left right → left < own
  unfolding InputsEarlier
  difference_left is = (subst (InputsEarlier own) is inputs).0

  pub difference_right : {left right : ℕ} → kind ≡ Difference left right → right < own
  unfolding InputsEarlier
  difference_right is = (subst (InputsEarlier own) is inputs).1

-- A constant and a gain hold a fraction as the term should.
module _ (P : Scaled → Type 0) {kind : Kind} (fraction : FractionOf P kind) where
  pub constant_holds : {s : Scaled} → kind ≡ Constant s → P s
  unfolding FractionOf
  constant_holds is = subst (FractionOf P) is fraction

  pub gain_holds : {factor : Scaled} {input : ℕ} → kind ≡ Gain factor input → P factor
  unfolding FractionOf
  gain_holds is = subst (FractionOf P) is fraction
