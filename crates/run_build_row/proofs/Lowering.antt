-- The fraction of a constant or a gain in lowest terms.
-- Main results: `constant_factor`, `gain_factor`, `no_factor`. Assume nothing.
use mathlib.Core.Path.{◌≡◌, refl, sym, subst}
use Prim.Native.Nat.{ℕ}
use lib.IntN.{pos}
use Rattle.fraction.specs.declared.Fraction.{Fraction}
use Rattle.fraction.specs.declared.Scaled.{Scaled}
use Rattle.fraction.specs.Exact.{worth}
use Rattle.fraction_reduce.specs.Values.{value, Stands}
use Rattle.fraction_reduce.proofs.Tests.{zero_stands}
use Rattle.rules_problem.specs.declared.Kind.{Kind}
use Rattle.rules_problem.specs.declared.Kind.TheVariants.{Variable, Constant, Gain, Sum, Difference, Lookup1, Lookup2, Lookup3}
use Rattle.run_build_row.specs.Buildable.{FractionOf, FactorOf}

pub constant_factor : {kind : Kind} {s : Scaled} {f : Fraction} → kind ≡ Constant s → Stands f (worth s) → FactorOf kind f
unfolding FractionOf
constant_factor {f = f} is stands = subst (λ k. FactorOf k f) (sym is) (record { good = stands.good; same = stands.same })

pub gain_factor : {kind : Kind} {s : Scaled} {f : Fraction} {input : ℕ} → kind ≡ Gain s input → Stands f (worth s) → FactorOf kind f
unfolding FractionOf
gain_factor {f = f} is stands = subst (λ k. FactorOf k f) (sym is) (record { good = stands.good; same = stands.same })

-- Any other term holds no fraction.
pub no_factor : (kind : Kind) → ((s : Scaled) → kind ≡ Constant s → ⊥) → ((s : Scaled) (input : ℕ) → kind ≡ Gain s input → ⊥) → FactorOf kind (record { num = pos 0; den = pos 1 })
unfolding FractionOf
no_factor kind no-constant no-gain = record { good = (zero_stands refl refl).good; same = none kind no-constant no-gain }
  where
    none : (k : Kind) → ((s : Scaled) → k ≡ Constant s → ⊥) → ((s : Scaled) (input : ℕ) → k ≡ Gain s input → ⊥) → FractionOf (λ s. value (record { num = pos 0; den = pos 1 }) ≡ worth s) k
    none (Variable symbol) no-constant no-gain = tt
    none (Constant held) no-constant no-gain = absurd (no-constant held refl)
    none (Gain factor input) no-constant no-gain = absurd (no-gain factor input refl)
    none (Sum left right) no-constant no-gain = tt
    none (Difference left right) no-constant no-gain = tt
    none (Lookup1 symbol input) no-constant no-gain = tt
    none (Lookup2 symbol first second) no-constant no-gain = tt
    none (Lookup3 symbol first second third) no-constant no-gain = tt
