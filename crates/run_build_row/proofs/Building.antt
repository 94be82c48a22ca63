-- The loop over the columns of a row that is built behind the sound ones.
-- Main results: `table_kept`, `sound_kept`, `row_made_built`, `built_after`. Assume nothing.
use mathlib.Core.Path.{◌≡◌, sym, ap, ◌∙◌, subst}
use mathlib.Core.Logic.{inl}
use mathlib.Core.List.{List}
use Prim.Native.Nat.{ℕ, ◌+◌, ◌*◌, ◌≤◌}
use native.Mathlib.Nat.{zero-add}
use native.Mathlib.Omega.{arith}
use lib.IntN.{ℤ}
use Rattle.fraction_reduce.specs.Values.{Good}
use Rattle.rules_problem.specs.declared.Kind.{Kind}
use Rattle.rules_run.specs.Row.{COLUMNS, row}
use Rattle.rules_run.specs.Build.{built_column}
use Rattle.run_table.specs.Step.{Step}
use Rattle.run_table.specs.Held.{row_at, table_at, SoundTo}
use Rattle.run_table.specs.Loop.{Kept, RowMade}
use Rattle.run_table.proofs.Columns.{listed_same, kept_row, kept_then}
use Rattle.run_build_row.specs.Contract.{RowBuilt}

-- The rows before one that changes stay as they are.
pub table_kept : (t : ℕ) {end : ℕ} {nums₀ dens₀ nums dens : List ℤ} → Kept (COLUMNS * t) end nums₀ dens₀ nums dens → table_at t nums dens ≡ table_at t nums₀ dens₀
unfolding table_at
table_kept t {end} {nums₀} {dens₀} {nums} {dens} kept =
    listed_same (λ s. row_at nums dens (COLUMNS * s)) (λ s. row_at nums₀ dens₀ (COLUMNS * s)) t 0
    (λ s below. rw zero-add (kept_row kept (COLUMNS * s) (inl (omega arith))))

-- And what is sound before it stays sound.
pub sound_kept : (m : ℕ) {base end : ℕ} {nums₀ dens₀ nums dens : List ℤ} → m ≤ base → Kept base end nums₀ dens₀ nums dens → SoundTo m nums₀ dens₀ → SoundTo m nums dens
sound_kept m less kept sound = record { good = λ k below. subst Good (sym (kept.outside k (inl (omega arith)))) (sound.good k below) }

-- The row that the loop has made is built.
pub row_made_built : {kind : Kind} {t : ℕ} {step : Step} {nums₀ dens₀ nums dens : List ℤ} → RowMade (built_column (table_at t nums₀ dens₀) t kind) (COLUMNS * t) (COLUMNS * (t + 1)) step nums₀ dens₀ nums dens → RowBuilt kind t step nums₀ dens₀ nums dens
row_made_built row_made = record { ends = row_made.ends; kept = row_made.kept; sound = λ done. row_made.sound }

-- Where only row t has changed before it was built, it is built of the rows as they were at first.
pub built_after : {kind : Kind} {t : ℕ} {step : Step} {nums₀ dens₀ nums₁ dens₁ nums dens : List ℤ} → Kept (COLUMNS * t) (COLUMNS * t + COLUMNS) nums₀ dens₀ nums₁ dens₁ → RowBuilt kind t step nums₁ dens₁ nums dens → RowBuilt kind t step nums₀ dens₀ nums dens
built_after {kind} {t} kept built =
    record { ends = ap (λ table. row (built_column table t kind)) (sym (table_kept t kept)) ∙ built.ends; kept = kept_then kept built.kept; sound = built.sound }
