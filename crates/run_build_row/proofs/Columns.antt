-- What stands in one column of an earlier row, and 1 as a fraction.
-- Main results: `cell_stands`, `one_stands`. Assume nothing.
use mathlib.Core.Path.{◌≡◌, refl, sym, ap, ◌∙◌, subst}
use mathlib.Core.List.{List}
use Prim.Native.Nat.{ℕ, ◌+◌, ◌*◌, ◌<◌}
use native.Mathlib.Omega.{arith}
use lib.IntN.{ℤ, pos}
use Rattle.fraction.specs.declared.Fraction.{Fraction}
use Rattle.fraction.specs.Exact.{whole, one_ℚ}
use Rattle.fraction.specs.Limits.{limit}
use Rattle.fraction_reduce.specs.Values.{value, Good, Stands}
use Rattle.fraction_reduce.proofs.Linked.{stands}
use Rattle.rules_run.specs.Row.{COLUMNS, column, cell}
use Rattle.run_table.specs.Held.{held_at, table_at, SoundTo}
use Rattle.run_table.proofs.Columns.{column_held, row_held_lem}

-- What stands in an earlier row is what the table has there, and good.
pub cell_stands : (nums dens : List ℤ) (t input c : ℕ) {f : Fraction} → SoundTo (COLUMNS * t) nums dens → input < t → c < COLUMNS → f ≡ held_at nums dens (COLUMNS * input + c) → Stands f (cell (table_at t nums dens) input c)
unfolding cell
cell_stands nums dens t input c {f} sound before below held =
    record {
      good = subst Good (sym held) (sound.good (COLUMNS * input + c) (omega arith));
      same = ap value held ∙ sym (ap (λ r. column r c) (row_held_lem t nums dens input before) ∙ column_held nums dens (COLUMNS * input) c below);
    }

-- 1 is 1/1.
pub one_stands : Stands (record { num = pos 1; den = pos 1 }) one_ℚ
unfolding one_ℚ whole limit
one_stands = stands one_ℚ refl refl (omega arith) (omega arith)
