-- One turn of a loop over the columns of a row: what an operation answers is stored, or ends the loop; and how a step ends.
-- Main results: `turn_stores`, `turn_stops`, `turns_end`, `stepped_done`, `stepped_refused`, `refused_not_done`. Assume nothing.
use Rattle.std.specs.Prelude.{Err, Ok, Result}
use mathlib.Core.Path.{◌≡◌, sym, ap, ◌∙◌, subst, subst₂}
use mathlib.Core.List.{List}
use Prim.Native.Nat.{ℕ, ◌+◌, ◌≤◌, ◌<◌}
use native.Mathlib.Omega.{arith}
use lib.ListN.{length, set}
use lib.IntN.{ℤ}
use Rattle.fraction.specs.declared.Fraction.{Fraction}
use Rattle.fraction.specs.Exact.{ℚ}
use Rattle.answer.specs.declared.Reason.{Reason}
use Rattle.fraction.specs.Made as rule
use Rattle.fraction_reduce.specs.Values.{Answers}
use Rattle.fraction_reduce.proofs.Answered.{fits_made, fits_good, refused_stopped}
use Rattle.rules_run.specs.Row.{COLUMNS}
use Rattle.run_table.specs.Step.{Step}
use Rattle.run_table.specs.Held.{stepped}
use Rattle.run_table.specs.Loop.{Making, RowMade}
use Rattle.run_table.proofs.Rows.{making_goes_on, making_stops, making_ends}

module _ {g : ℕ → rule.Made Reason ℚ} {base m j : ℕ} {nums₀ dens₀ nums dens : List ℤ} (making : Making g base m j nums₀ dens₀ nums dens) {r : Result Fraction Reason} (answers : Answers r (g j)) where
  -- The fraction that answers the rule's column is stored: one column more is made.
  pub turn_stores : {f : Fraction} {place : ℕ} {nums' dens' : List ℤ} → r ≡ Ok f → place ≡ base + j → place < length nums → place < length dens → nums' ≡ set nums place f.num → dens' ≡ set dens place f.den → Making g base m (j + 1) nums₀ dens₀ nums' dens'
  turn_stores {f} e at n d num den =
      subst₂ (Making g base m (j + 1) nums₀ dens₀)
      (sym (num ∙ ap (λ k. set nums k f.num) at)) (sym (den ∙ ap (λ k. set dens k f.den) at))
      (making_goes_on g base m nums₀ dens₀ j f (omega arith) (omega arith) (fits_good answers e) (fits_made answers e) making)

  -- A refusal of a column is the row's.
  pub turn_stops : {why : Reason} → r ≡ Err why → j < COLUMNS → RowMade g base m (Err why) nums₀ dens₀ nums dens
  turn_stops {why} e below = making_stops g base m nums₀ dens₀ j why below (refused_stopped answers e) making

-- After the last column the row is made.
pub turns_end : {g : ℕ → rule.Made Reason ℚ} {base m j : ℕ} {nums₀ dens₀ nums dens : List ℤ} → Making g base m j nums₀ dens₀ nums dens → j ≤ COLUMNS → COLUMNS ≤ j → RowMade g base m (Ok tt) nums₀ dens₀ nums dens
turns_end {g} {base} {m} {j} {nums₀} {dens₀} {nums} {dens} making below above =
    let all : j ≡ COLUMNS = omega arith in
    making_ends g base m nums₀ dens₀ (subst (λ c. Making g base m c nums₀ dens₀ nums dens) all making)

-- A step that is done makes what the lists hold then; one that is refused stops with its number.
pub stepped_done {ℓ} : {A : Type ℓ} {m : rule.Made Reason A} {step : Step} {a : A} → m ≡ stepped step a → step ≡ Ok tt → m ≡ rule.made a
unfolding stepped
stepped_done {a = a} ends done = ends ∙ ap (λ step. stepped step a) done

pub stepped_refused {ℓ} : {A : Type ℓ} {m : rule.Made Reason A} {step : Step} (a : A) {why : Reason} → m ≡ stepped step a → step ≡ Err why → m ≡ rule.stopped why
unfolding stepped
stepped_refused a ends refused = ends ∙ ap (λ step. stepped step a) refused

pub refused_not_done : {why : Reason} → ◌≡◌ {A = Step} (Err why) (Ok tt) → ⊥
refused_not_done e = let never : ◌≡◌ {A = ℕ} 0 1 = cc in omega arith
