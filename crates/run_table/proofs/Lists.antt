-- Rows that stand in two lists, outside a set of whose columns they hold 0.
-- Main results: `rows_held`, `read_good`, `first_good`, `column_nothing`, `within_any`. Assume nothing.
use mathlib.Core.Path.{◌≡◌, sym, ◌∙◌, subst}
use mathlib.Core.Bool.{false}
use mathlib.Core.List.{List}
use Prim.Native.Nat.{ℕ, ◌+◌, ◌*◌, ◌≤◌, ◌<◌}
use native.Mathlib.Omega.{arith}
use lib.IntN.{ℤ}
use Rattle.set_members.specs.Sets.{holds}
use Rattle.set_members.proofs.Digits.{holds_none}
use Rattle.fraction.specs.declared.Fraction.{Fraction}
use Rattle.fraction.specs.Exact.{zero_ℚ}
use Rattle.fraction_reduce.specs.Values.{Good}
use Rattle.rules_run.specs.Row.{TERMS, COLUMNS, column}
use Rattle.run_table.specs.Held.{held_at}
use Rattle.run_table.specs.Lists.{Lists, both, row_in, RowHeld, RowWithin}
use Rattle.run_table.specs.Sets.{Within}
use Rattle.run_table.specs.Work.{Work, Rows}
use Rattle.run_table.proofs.Columns.{column_held, sound_fewer}
use Rattle.run_table.proofs.Sparse.{within_value, within_more}

-- The rows of a table stand in its lists.
pub rows_held : {n : ℕ} {w : Work} → Rows n w → (t : ℕ) → t < n → RowHeld (COLUMNS * t) (both w.nums w.dens)
rows_held rows t below =
    record {
      nums_fit = omega (arith, rows.few, rows.nums_fit);
      dens_fit = omega (arith, rows.few, rows.dens_fit);
      sound = sound_fewer (COLUMNS * t + COLUMNS) (omega arith) rows.sound;
    }

-- A number of a row is good; so is one of a row that starts at place 0.
pub read_good : {base at : ℕ} {l : Lists} {x : Fraction} → RowHeld base l → x ≡ held_at l.nums l.dens (base + at) → at ≤ TERMS → Good x
read_good {base} {at} held here most = subst Good (sym here) (held.sound.good (base + at) (omega arith))

pub first_good : {at : ℕ} {l : Lists} {x : Fraction} → RowHeld 0 l → x ≡ held_at l.nums l.dens at → at ≤ TERMS → Good x
first_good {at} held here most = subst Good (sym here) (held.sound.good at (omega arith))

-- A term's column outside the set is 0.
pub column_nothing : {set base : ℕ} {l : Lists} → RowWithin set base l → (c : ℕ) → c < TERMS → holds set c ≡ false
    → column (row_in l base) c ≡ zero_ℚ
column_nothing {base = base} {l} row c below out =
    column_held l.nums l.dens base c (omega arith) ∙ within_value c row.within row.held.sound (omega arith) below out

-- What is within the empty set is within any.
pub within_any : {set base : ℕ} {nums : List ℤ} → Within 0 base nums → Within set base nums
within_any = within_more (λ c out. holds_none c)
