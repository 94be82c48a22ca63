-- The fold of one row: 0 is stored in the solved column, and the others gain.
-- Main results: `column_stands`, `fold_asks`, `fold_made`, `row_passed`. Assume nothing.
use Rattle.std.specs.Prelude.{Ok}
use mathlib.Core.Path.{◌≡◌, refl, sym, ap, ap₂, ◌∙◌}
use mathlib.Core.Bool.{false, not, ◌&&◌, false≢true}
use mathlib.Core.List.{List}
use Prim.Native.Nat.{ℕ, ◌+◌, ◌<◌}
use native.Mathlib.Decide.{ℕ_discrete}
use native.Mathlib.Omega.{arith}
use lib.Dec.{eqb}
use lib.IntN.{ℤ, pos}
use lib.ListN.{set as stored_at}
use Rattle.set_members.specs.Sets.{holds}
use Rattle.fraction.specs.declared.Fraction.{Fraction}
use Rattle.fraction.specs.Exact.{zero_ℚ}
use Rattle.fraction_reduce.specs.Values.{value}
use Rattle.fraction.specs.Made.{made}
use Rattle.fraction_reduce.proofs.Tests.{zero_stands}
use Rattle.rules_run.specs.Row.{TERMS, COLUMNS, column}
use Rattle.rules_run.specs.Merge.{folded_column}
use Rattle.run_table.specs.Step.{Step}
use Rattle.run_table.specs.Held.{held_at, row_at}
use Rattle.run_table.specs.Lists.{both}
use Rattle.run_table.proofs.Columns.{column_held, kept_itself}
use Rattle.run_table.proofs.Lists.{read_good, column_nothing}
use Rattle.run_table.proofs.Reached.{Stored, stores, stored_sound, stored_other, row_apart}
use Rattle.run_table.proofs.Rows.{making_ends}
use Rattle.run_fold.specs.Cell.{gained_by, gained_column}
use Rattle.run_fold.specs.Contract.{GainableRow, GainsRow, FoldableAt, FoldsAt}
use Rattle.run_fold.proofs.Cells.{folded_solved, folded_gains, gains_no_form, gains_nothing}

module _ {base p set : ℕ} {nums₀ dens₀ form-nums form-dens : List ℤ}
    (asked : FoldableAt base p set (both nums₀ dens₀) (both form-nums form-dens)) where
  -- Outside the form's set, which has p, the rule leaves a column as it is.
  pub column_stands : (c : ℕ) → c < TERMS → holds set c ≡ false
      → folded_column p (row_at form-nums form-dens 0) (row_at nums₀ dens₀ base) c ≡ made (value (held_at nums₀ dens₀ (base + c)))
  column_stands c below out =
      folded_gains p (row_at form-nums form-dens 0) (row_at nums₀ dens₀ base) c (λ same. false≢true (sym out ∙ ap (holds set) same ∙ asked.unknown.inside))
      ∙ ap₂ (gained_by (column (row_at nums₀ dens₀ base) p)) (column_nothing asked.form_row c below out) (column_held nums₀ dens₀ base c (omega arith))
      ∙ gains_no_form (column (row_at nums₀ dens₀ base) p) (asked.row.sound.good (base + c) (omega arith))

  module _ {k : Fraction} (taken : k ≡ held_at nums₀ dens₀ (base + p)) where
    module _ {nums₁ dens₁ : List ℤ} (num : nums₁ ≡ stored_at nums₀ (base + p) (pos 0)) (den : dens₁ ≡ stored_at dens₀ (base + p) (pos 1)) where
      -- 0 stands in the solved column.
      stored : Stored (base + p) (record { num = pos 0; den = pos 1 }) nums₀ dens₀ nums₁ dens₁
      stored =
          let row = asked.row in
          let term = asked.unknown.term in
          stores (base + p) (record { num = pos 0; den = pos 1 }) nums₀ dens₀ num den (omega (arith, row.nums_fit)) (omega (arith, row.dens_fit))

      -- The others can gain,
      pub fold_asks : GainableRow base k (both nums₁ dens₁) (both form-nums form-dens)
      fold_asks =
          let row = asked.row in
          let term = asked.unknown.term in
          record {
            coefficient_good = read_good row taken (omega arith);
            row =
                record {
                  nums_fit = omega (arith, row.nums_fit, stored.nums_length);
                  dens_fit = omega (arith, row.dens_fit, stored.dens_length);
                  sound = stored_sound stored (zero_stands refl refl).good row.sound;
                };
            form_row = asked.form_row.held;
          }

      -- and where they have, in the set without p, the row is folded.
      pub fold_made : (others : ℕ) → ((c : ℕ) → holds others c ≡ (not (eqb c p) && holds set c)) → {step : Step} {nums dens : List ℤ}
          → GainsRow base k others (both form-nums form-dens) step (both nums₁ dens₁) (both nums dens)
          → FoldsAt base p (both form-nums form-dens) step (both nums₀ dens₀) (both nums dens)
      unfolding gained_column
      fold_made others without gains =
          let form = row_at form-nums form-dens 0 in
          let r = row_at nums₀ dens₀ base in
          let term = asked.unknown.term in
          record {
            row_made =
                row_apart p base term stored set others without (zero_stands refl refl).same (folded_solved p form r p refl)
                (λ c below other.
                folded_gains p form r c other
                ∙ ap₂ (λ k x. gained_by k (column form c) x) (column_held nums₀ dens₀ base p (omega arith) ∙ sym (ap value taken)) (sym (stored_other p base term stored c below other)))
                (λ c below other out. column_stands c below out ∙ ap made (sym (column_held nums₀ dens₀ base c (omega arith))))
                gains.row_made;
          }

  -- A row whose coefficient at p is 0 is its own fold.
  pub row_passed : value (held_at nums₀ dens₀ (base + p)) ≡ zero_ℚ
      → FoldsAt base p (both form-nums form-dens) (Ok tt) (both nums₀ dens₀) (both nums₀ dens₀)
  row_passed none =
      record {
        row_made =
            making_ends (folded_column p (row_at form-nums form-dens 0) (row_at nums₀ dens₀ base)) base (base + COLUMNS) nums₀ dens₀
            (record {
              kept = kept_itself base (base + COLUMNS) nums₀ dens₀;
              made_below = λ c below. by c below (ℕ_discrete c p);
              sound = asked.row.sound;
            });
      }
    where
      by : (c : ℕ) → c < COLUMNS → Dec (c ≡ p)
          → folded_column p (row_at form-nums form-dens 0) (row_at nums₀ dens₀ base) c ≡ made (value (held_at nums₀ dens₀ (base + c)))
      by c below (yes same) =
          folded_solved p (row_at form-nums form-dens 0) (row_at nums₀ dens₀ base) c same ∙ ap made (sym (ap (λ x. value (held_at nums₀ dens₀ (base + x))) same ∙ none))
      by c below (no other) =
          let term = asked.unknown.term in
          folded_gains p (row_at form-nums form-dens 0) (row_at nums₀ dens₀ base) c other
          ∙ ap₂ (λ k x. gained_by k (column (row_at form-nums form-dens 0) c) x) (column_held nums₀ dens₀ base p (omega arith) ∙ none) (column_held nums₀ dens₀ base c below)
          ∙ gains_nothing (column (row_at form-nums form-dens 0) c) (asked.row.sound.good (base + c) (omega arith))
