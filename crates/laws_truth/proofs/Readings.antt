-- From valuations that meet the assumptions to readings that do, and back.
-- Main results: `met_valued`, `valued_met`, `none_met`, `forced_exactly`. Assume nothing.
use mathlib.Core.Path.{◌≡◌, sym, ◌∙◌}
use mathlib.Core.Logic.{◌↔◌}
use Prim.Native.Nat.{ℕ, ◌<◌}
use lib.ListN.{length}
use Rattle.fraction.specs.Exact.{ℚ}
use Rattle.rules_problem.specs.Problem.{Problem}
use Rattle.rules_reading.specs.Reading.{Meets, MeetsAll}
use Rattle.rules_reading.specs.Forced.{Met, Forced, IsContradictory}
use Rattle.laws_valuation.specs.Sound.{Sound}
use Rattle.laws_valuation.specs.Valuation.{Valuation}
use Rattle.laws_valuation.specs.Values.{value_in}
use Rattle.laws_valuation.proofs.Readings.{value_in_equal, reading_valued, valuation_read}
use Rattle.laws_invariant.specs.Invariant.{ValuesMeet, Equates, NoneMeets}

module _ (problem : Problem) (sound : Sound problem) where
  -- The values of a reading that meets the assumptions are a valuation that meets them (R1),
  pub met_valued : (met : Met problem) → Valuation problem.terms (value_in met.reading) × ValuesMeet (value_in met.reading) problem.pairs
  unfolding ValuesMeet MeetsAll Meets
  met_valued met = (
    reading_valued problem.terms sound.written met.reading,
    λ pair member. (value_in_equal met.reading pair.left pair.right).0 (met.meets pair member),
  )

  -- and such a valuation is that of a reading that does (R2).
  pub valued_met : (v : ℕ → ℚ) → Valuation problem.terms v → ValuesMeet v problem.pairs → (met : Met problem) × ((t : ℕ) → t < length problem.terms → value_in met.reading t ≡ v t)
  unfolding ValuesMeet MeetsAll Meets
  valued_met v valued meets =
      let (reading, values) = valuation_read problem.terms sound.written v valued in (
        record {
          reading = reading;
          meets = λ pair member.
              let (left, right) = sound.pairs pair member in
              (value_in_equal reading pair.left pair.right).1 (values pair.left left ∙ meets pair member ∙ sym (values pair.right right));
        },
        values,
      )

  -- Where no valuation meets the assumptions, no reading does.
  pub none_met : NoneMeets problem.terms problem.pairs → IsContradictory problem
  unfolding NoneMeets IsContradictory
  none_met none met = let (valued, meets) = met_valued met in none (value_in met.reading) valued meets

  -- Two terms are forced equal exactly if every valuation that meets the assumptions gives them the same number.
  pub forced_exactly : (t u : ℕ) → t < length problem.terms → u < length problem.terms → Equates problem.terms problem.pairs t u ↔ Forced problem (record { left = t; right = u })
  unfolding Equates Forced Meets
  forced_exactly t u t-below u-below = (
    λ equates met. let (valued, meets) = met_valued met in (value_in_equal met.reading t u).1 (equates (value_in met.reading) valued meets),
    λ forced v valued meets. let (met, values) = valued_met v valued meets in sym (values t t-below) ∙ (value_in_equal met.reading t u).0 (forced met) ∙ values u u-below,
  )
