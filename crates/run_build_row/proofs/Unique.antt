-- The contract of a term's row leaves one answer.
-- Main results: `build_term_unique`, `row_built_same`. Assume nothing.
use mathlib.Core.Path.{◌≡◌, sym, ◌∙◌}
use mathlib.Core.List.{List}
use Prim.Native.Nat.{ℕ, ◌+◌, ◌-◌, ◌*◌}
use native.Mathlib.Omega.{arith}
use lib.ListN.{length, get_or}
use lib.IntN.{ℤ}
use Rattle.unique.specs.Twice.{Twice}
use Rattle.rules_problem.specs.declared.Kind.{Kind}
use Rattle.rules_run.specs.Row.{COLUMNS}
use Rattle.run_table.specs.Step.{Step}
use Rattle.run_table.specs.Held.{row_at}
use Rattle.run_table.specs.Lists.{both}
use Rattle.run_table.proofs.Determined.{step_determined, done_determined, row_determined, lists_determined}
use Rattle.run_table.proofs.SameEnd.{SameEnd, kept_alike}
use Rattle.run_build_row.specs.Contract.{RowBuilt}
use Rattle.run_build_row.proofs.build_term.Kinds.{ps, r}
use Rattle.run_build_row.proofs.build_term.Reads.{Post}

pub row_built_same : {kind : Kind} {t : ℕ} {x y : Step} {nums₀ dens₀ nums dens nums' dens' : List ℤ} → RowBuilt kind t x nums₀ dens₀ nums dens → RowBuilt kind t y nums₀ dens₀ nums' dens' → SameEnd (COLUMNS * t) (COLUMNS * t + COLUMNS) x y (both nums dens) (both nums' dens')
row_built_same {t = t} {x} {y} {nums = nums} {dens} {nums'} {dens'} first second =
    let one = row_at nums dens (COLUMNS * t) in
    let other = row_at nums' dens' (COLUMNS * t) in
    let alike = step_determined x y one other first.ends second.ends in
    record {
      answer = alike;
      done = λ over. lists_determined first.kept second.kept λ k above below.
          let same = done_determined x y one other first.ends second.ends over in
          let place : k ≡ COLUMNS * t + (k - COLUMNS * t) = omega arith in
          rw place (row_determined (COLUMNS * t) (omega arith) (first.sound over) (second.sound (sym alike ∙ over)) same (k - COLUMNS * t) (omega arith));
      kept = kept_alike first.kept second.kept;
    }

-- How it ends is fixed, and both lists where it is done. Where it is refused, so is every place but those of row t, which may hold
-- anything: the run ends there, and its caller clears them. So are the sets but for the one noted for the row, of which only that it has
-- room for the row's columns is promised. Said of the contract itself: of what the toolchain reads from it.
pub build_term_unique : Twice ps r Post λ κs (term, (t, _)) x y (_, (_, (nums, (dens, (sets, _))))) (_, (_, (nums', (dens', (sets', _))))).
    SameEnd (COLUMNS * t) (COLUMNS * t + COLUMNS) x y (both nums.now dens.now) (both nums'.now dens'.now) × (length sets.now ≡ length sets'.now) × ((k : ℕ) → (k ≡ t → ⊥) → get_or sets.now k 0 ≡ get_or sets'.now k 0)
build_term_unique κs a x y end end' first second = (
  row_built_same first.built second.built,
  first.size ∙ sym second.size,
  λ k other. first.others k other ∙ sym (second.others k other),
)
