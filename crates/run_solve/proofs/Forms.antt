-- The form of an unknown: 0 is stored in its column, and the columns of the others are multiplied by a factor.
-- Main results: `form_reads`, `form_asks`, `form_made`. Assume nothing.
use mathlib.Core.Path.{◌≡◌, refl, sym, ap, ap₂, ◌∙◌}
use mathlib.Core.Bool.{false, not, ◌&&◌, and-false}
use mathlib.Core.List.{List}
use Prim.Native.Nat.{ℕ, ◌+◌, ◌<◌}
use native.Mathlib.Nat.{zero-add}
use native.Mathlib.Decide.{ℕ_discrete}
use native.Mathlib.Omega.{arith}
use borrow.Author.Tests.{ne_eqb}
use lib.Dec.{eqb}
use lib.IntN.{ℤ, pos}
use lib.ListN.{get_or, set as stored_at}
use Rattle.set_members.specs.Sets.{holds}
use Rattle.fraction.specs.declared.Fraction.{Fraction}
use Rattle.fraction.specs.Exact.{neg_ℚ, inverse}
use Rattle.fraction.specs.Limits.{times}
use Rattle.fraction.specs.Made.{made}
use Rattle.fraction_reduce.specs.Values.{value, Good, Stands}
use Rattle.fraction_reduce.proofs.Tests.{zero_stands}
use Rattle.rules_run.specs.Row.{TERMS, COLUMNS, column}
use Rattle.run_table.specs.Step.{Step}
use Rattle.run_table.specs.Held.{held_at, row_at}
use Rattle.run_table.specs.Lists.{both}
use Rattle.run_table.specs.Sets.{Within}
use Rattle.run_table.proofs.Columns.{column_first}
use Rattle.run_table.proofs.Lists.{first_good, column_nothing}
use Rattle.run_table.proofs.Reached.{Stored, stores, stored_sound, stored_other, row_apart}
use Rattle.run_table.proofs.Sparse.{within_more}
use Rattle.run_solve.specs.Cell.{scaled_column}
use Rattle.run_solve.specs.Contract.{ScalableRow, ScalesRow, Formable, Forms}
use Rattle.run_solve.proofs.Cells.{solved_itself, solved_other, solved_nothing}

module _ {p set : ℕ} {nums₀ dens₀ : List ℤ} (asked : Formable p set (both nums₀ dens₀)) where
  -- The coefficient to divide by is good, as every number of the row is.
  pub form_reads : {k : Fraction} {c : ℕ} → k ≡ held_at nums₀ dens₀ c → c < COLUMNS → Good k
  form_reads here below = first_good asked.row.held here (omega arith)

  module _ {nums₁ dens₁ : List ℤ} (num : nums₁ ≡ stored_at nums₀ p (pos 0)) (den : dens₁ ≡ stored_at dens₀ p (pos 1)) (others : ℕ)
      (without : (c : ℕ) → holds others c ≡ (not (eqb c p) && holds set c)) where
    -- 0 stands in the column of the unknown.
    stored : Stored p (record { num = pos 0; den = pos 1 }) nums₀ dens₀ nums₁ dens₁
    stored =
        let held = asked.row.held in
        let term = asked.unknown.term in
        stores p (record { num = pos 0; den = pos 1 }) nums₀ dens₀ num den (omega (arith, held.nums_fit)) (omega (arith, held.dens_fit))

    -- With it, the row has no column but the others of the set,
    within_others : Within others 0 nums₁
    within_others = record { zero = λ c below out. rw zero-add (by c below out (ℕ_discrete c p)) }
      where
        by : (c : ℕ) → c < TERMS → holds others c ≡ false → Dec (c ≡ p) → get_or nums₁ c (pos 0) ≡ pos 0
        by c below out (yes same) = ap (λ k. get_or nums₁ k (pos 0)) same ∙ ap (λ x. x.num) stored.here
        by c below out (no other) =
            let before : holds set c ≡ false = sym (without c ∙ ap (λ b. not b && holds set c) (ne_eqb c p other)) ∙ out in
            ap (λ x. x.num) (stored.others c other) ∙ ap (λ k. get_or nums₀ k (pos 0)) (sym (zero-add c)) ∙ asked.row.within.zero c below before

    -- and can be multiplied.
    pub form_asks : {factor : Fraction} → Good factor → ScalableRow factor others (both nums₁ dens₁)
    form_asks good =
        let held = asked.row.held in
        record {
          factor_good = good;
          row =
              record {
                held =
                    record {
                      nums_fit = omega (arith, held.nums_fit, stored.nums_length);
                      dens_fit = omega (arith, held.dens_fit, stored.dens_length);
                      sound = stored_sound stored (zero_stands refl refl).good held.sound;
                    };
                within = within_others;
              };
        }

    -- Multiplied by what divides by the coefficient and negates, the other columns are the form's; where the difference holds 0, so does the form.
    pub form_made : {k factor : Fraction} {step : Step} {nums dens : List ℤ} → k ≡ held_at nums₀ dens₀ p
        → Stands factor (neg_ℚ (inverse (value k))) → ScalesRow factor others step (both nums₁ dens₁) (both nums dens)
        → Forms p set step (both nums₀ dens₀) (both nums dens)
    unfolding scaled_column
    form_made {k} {factor} divisor stands scales =
        let d = row_at nums₀ dens₀ 0 in
        let term = asked.unknown.term in
        let there : Stored (0 + p) (record { num = pos 0; den = pos 1 }) nums₀ dens₀ nums₁ dens₁ = rw zero-add stored in
        let factor-is : neg_ℚ (inverse (column d p)) ≡ value factor = ap (λ q. neg_ℚ (inverse q)) (column_first nums₀ dens₀ p (omega arith) ∙ sym (ap value divisor)) ∙ sym stands.same in
        record {
          row_made =
              row_apart p 0 term there set others without (zero_stands refl refl).same (solved_itself p d p refl)
              (λ c below other. solved_other p d c other ∙ ap₂ times factor-is (sym (stored_other p 0 term there c below other)))
              (λ c below other out.
              let none = column_nothing asked.row c below out in
              solved_nothing p d c other none ∙ ap made (sym none))
              scales.row_made;
          within = within_more (λ c out. without c ∙ ap (λ b. not (eqb c p) && b) out ∙ and-false (not (eqb c p))) scales.within;
        }
