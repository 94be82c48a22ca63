-- What two answers to one call of a step have alike, as the laws of uniqueness say it.
-- Main definitions: `SameEnd`, `SameLinks`. Main results: `kept_alike`, `row_same_end`, `table_same_end`, `within_alike`, `stirred_alike`.
-- Assume nothing.
use Rattle.std.specs.Prelude.{Ok}
use mathlib.Core.Path.{◌≡◌, sym, ◌∙◌}
use mathlib.Core.Logic.{◌≢◌}
use mathlib.Core.List.{List}
use Prim.Native.Nat.{ℕ, ◌+◌, ◌*◌, ◌≤◌}
use native.Mathlib.Omega.{arith}
use lib.IntN.{ℤ}
use lib.ListN.{length, get_or}
use Rattle.fraction.specs.Exact.{ℚ}
use Rattle.answer.specs.declared.Reason.{Reason}
use Rattle.fraction.specs.Made.{Made}
use Rattle.fraction_reduce.proofs.Lowest.{value_one_to_one}
use Rattle.rules_run.specs.Row.{Table, TERMS, COLUMNS}
use Rattle.run_table.specs.Step.{Step}
use Rattle.run_table.specs.Held.{table_at, SoundTo, stepped}
use Rattle.run_table.specs.Lists.{Lists}
use Rattle.run_table.specs.Loop.{Kept, RowMade}
use Rattle.run_table.specs.Sets.{Within, Stirred}
use Rattle.run_table.proofs.Determined.{step_determined, done_determined, table_determined, lists_determined, row_made_unique}
use Rattle.run_table.proofs.OverSet.{Spared}
use Rattle.run_table.proofs.Sparse.{within_value}

-- A step ends r and leaves l, or ends s and leaves m: it ends alike, and leaves the same lists where it is done. Where it is refused, they
-- have the same lengths, and differ at most in the places from `base` up to `end`.
pub record SameEnd (base end : ℕ) (r s : Step) (l m : Lists) : Type 0 where
  pub answer : r ≡ s
  pub done : r ≡ Ok tt → (l.nums ≡ m.nums) × (l.dens ≡ m.dens)
  pub kept : Kept base end l.nums l.dens m.nums m.dens

-- Lists that keep the places of the same lists keep each other's.
pub kept_alike : {base end : ℕ} {nums₀ dens₀ nums dens nums' dens' : List ℤ} → Kept base end nums₀ dens₀ nums dens
    → Kept base end nums₀ dens₀ nums' dens' → Kept base end nums dens nums' dens'
kept_alike first second =
    record {
      nums_length = second.nums_length ∙ sym first.nums_length;
      dens_length = second.dens_length ∙ sym first.dens_length;
      outside = λ k out. second.outside k out ∙ sym (first.outside k out);
    }

-- A row that a rule makes ends one way.
pub row_same_end : {g : ℕ → Made Reason ℚ} {base m : ℕ} {r s : Step} {nums₀ dens₀ : List ℤ} {new new' : Lists} → base + COLUMNS ≤ m
    → RowMade g base m r nums₀ dens₀ new.nums new.dens → RowMade g base m s nums₀ dens₀ new'.nums new'.dens
    → SameEnd base (base + COLUMNS) r s new new'
row_same_end room first second =
    let same = row_made_unique room first second in
    record { answer = same.0; done = same.1; kept = kept_alike first.kept second.kept }

-- So does a table of n rows.
pub table_same_end : {rule : Made Reason Table} (n : ℕ) {r s : Step} {nums₀ dens₀ : List ℤ} {new new' : Lists}
    → rule ≡ stepped r (table_at n new.nums new.dens) → rule ≡ stepped s (table_at n new'.nums new'.dens)
    → Kept 0 (COLUMNS * n) nums₀ dens₀ new.nums new.dens → Kept 0 (COLUMNS * n) nums₀ dens₀ new'.nums new'.dens
    → SoundTo (COLUMNS * n) new.nums new.dens → SoundTo (COLUMNS * n) new'.nums new'.dens → SameEnd 0 (COLUMNS * n) r s new new'
table_same_end n {r} {s} {new = new} {new'} ends ends' kept kept' sound sound' =
    let table = table_at n new.nums new.dens in
    let table' = table_at n new'.nums new'.dens in
    record {
      answer = step_determined r s table table' ends ends';
      done = λ over. lists_determined kept kept' λ k above below. table_determined n sound sound' (done_determined r s table table' ends ends' over) k below;
      kept = kept_alike kept kept';
    }

-- Rows within a set are the same outside it: they hold 0 there, which has one form.
pub within_alike : {set base m : ℕ} {nums dens nums' dens' : List ℤ} → base + COLUMNS ≤ m → SoundTo m nums dens → SoundTo m nums' dens'
    → Within set base nums → Within set base nums' → Spared set base nums dens nums' dens'
within_alike {base = base} room sound sound' within within' =
    record {
      same = λ c below out.
          value_one_to_one (sound'.good (base + c) (omega arith)) (sound.good (base + c) (omega arith))
          (within_value c within' sound' (omega arith) below out ∙ sym (within_value c within sound (omega arith) below out));
    }

-- The sets that two answers to one call leave have the same length, and the same links and open lookups. (Which columns a row may have,
-- and which lookups are pending, they need not have alike.)
pub record SameLinks (sets sets' : List ℕ) : Type 0 where
  pub size : length sets' ≡ length sets
  pub links : (k : ℕ) → TERMS ≤ k → k ≢ 192 → get_or sets' k 0 ≡ get_or sets k 0

pub stirred_alike : {n : ℕ} {nums₀ dens₀ nums dens nums' dens' : List ℤ} {sets₀ sets sets' : List ℕ}
    → Stirred n nums₀ dens₀ nums dens sets₀ sets → Stirred n nums₀ dens₀ nums' dens' sets₀ sets' → SameLinks sets sets'
stirred_alike first second =
    record { size = second.same_length ∙ sym first.same_length; links = λ k low other. second.links k low other ∙ sym (first.links k low other) }
