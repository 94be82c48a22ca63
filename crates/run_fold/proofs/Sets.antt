-- What the sets of a run say after a row was folded.
-- Main results: `sets_noted`, `row_sparse`, `row_stirred`. Assume nothing.
use Rattle.std.specs.Prelude.{Ok}
use mathlib.Core.Path.{◌≡◌, refl, sym, ap, ◌∙◌}
use mathlib.Core.Logic.{◌⊎◌, inl, inr}
use mathlib.Core.Bool.{Bool, true, false, not, ◌&&◌, ◌||◌, true≢false, or-true}
use mathlib.Core.List.{List}
use Prim.Native.Nat.{ℕ, ◌+◌, ◌*◌, ◌≤◌, ◌<◌}
use native.Mathlib.Nat.{zero-add}
use native.Mathlib.Decide.{ℕ_discrete, dec_lt}
use native.Mathlib.Omega.{arith}
use borrow.Author.Tests.{ne_eqb}
use lib.Dec.{eqb}
use lib.IntN.{ℤ, pos}
use lib.ListN.{length, get_or, length-set, set as stored}
use lib.Seq.{get_or-set_same, get_or-set_other}
use Rattle.set_members.specs.Sets.{holds}
use Rattle.fraction.specs.declared.Fraction.{Fraction}
use Rattle.fraction.specs.Exact.{ℚ, whole, zero_ℚ}
use Rattle.answer.specs.declared.Reason.{Reason}
use Rattle.fraction.specs.Made.{Made, made}
use Rattle.fraction.proofs.Making.{tab_member}
use Rattle.fraction_reduce.specs.Values.{value, Good}
use Rattle.fraction_reduce.proofs.Lowest.{value_num}
use Rattle.rules_run.specs.Row.{TERMS, COLUMNS, column, row}
use Rattle.run_table.specs.Step.{Step}
use Rattle.run_table.specs.Held.{held_at, row_at}
use Rattle.run_table.specs.Lists.{Lists, both}
use Rattle.run_table.specs.Loop.{RowMade}
use Rattle.run_table.specs.Sets.{PENDING, Within, columns_of, users_of, pending_of, Sparse, Stirred}
use Rattle.run_table.specs.Work.{Work}
use Rattle.run_table.proofs.Columns.{column_held, kept_row}
use Rattle.run_table.proofs.Sparse.{zero_numerator, stirred_itself}
use Rattle.run_table.proofs.Stirred.{within_kept}
use Rattle.run_table.proofs.Turns.{stepped_done}
use Rattle.run_fold.specs.Contract.{SetsNotable, Noted, FoldableAt, FoldsAt, FoldableRow, FoldsRow}
use Rattle.run_fold.proofs.Cells.{folded_solved}
use Rattle.run_fold.proofs.Columns.{column_stands}

-- The two stores of a noting.
pub sets_noted : (t p set : ℕ) {sets : List ℕ} (both-sets columns pending : ℕ) → SetsNotable t p sets
    → ((c : ℕ) → holds both-sets c ≡ (holds (get_or sets t 0) c || holds set c))
    → ((c : ℕ) → holds columns c ≡ (not (eqb c p) && holds both-sets c))
    → ((j : ℕ) → holds pending j ≡ (holds (get_or sets PENDING 0) j || holds (get_or sets (TERMS + t) 0) j))
    → Noted t p set sets (stored (stored sets t columns) PENDING pending)
unfolding columns_of users_of pending_of
sets_noted t p set {sets} both-sets columns pending asked union without woken =
    let small = asked.row in
    let size = asked.size in
    let place : PENDING < length (stored sets t columns) = omega (arith, length-set sets t columns) in
    let first : get_or (stored (stored sets t columns) PENDING pending) t 0 ≡ columns =
    get_or-set_other (stored sets t columns) PENDING t pending 0 (λ e. omega arith) ∙ get_or-set_same sets t columns 0 (omega arith) in
    record {
      same_length = length-set (stored sets t columns) PENDING pending ∙ length-set sets t columns;
      others = λ k row rest. get_or-set_other (stored sets t columns) PENDING k pending 0 rest ∙ get_or-set_other sets t k columns 0 row;
      columns = λ c. ap (λ s. holds s c) first ∙ without c ∙ ap (λ b. not (eqb c p) && b) (union c);
      pending = λ j. ap (λ s. holds s j) (get_or-set_same (stored sets t columns) PENDING pending 0 place) ∙ woken j;
    }

-- The numerator of a good fraction that is 0 is 0.
numerator_zero : {f : Fraction} → Good f → value f ≡ zero_ℚ → f.num ≡ pos 0
unfolding zero_ℚ whole
numerator_zero good none = sym (value_num good) ∙ ap (λ q. q.num) none

-- A row that is done holds what the rule makes of each column.
column_made : {g : ℕ → Made Reason ℚ} {base m : ℕ} {step : Step} {nums₀ dens₀ nums dens : List ℤ} → RowMade g base m step nums₀ dens₀ nums dens
    → step ≡ Ok tt → (c : ℕ) → c < COLUMNS → g c ≡ made (value (held_at nums dens (base + c)))
unfolding row column
column_made {g} {base} {nums = nums} {dens} turn done c below =
    let all : row g ≡ made (row_at nums dens base) = stepped_done turn.ends done in
    rw zero-add at (tab_member g COLUMNS 0 (row_at nums dens base) all zero_ℚ c below) ∙ ap made (column_held nums dens base c below)

-- A number that was put into no set, and is not the one that was taken out, was in neither.
in_neither : (solved before there : Bool) → solved ≡ false → (not solved && (before || there)) ≡ false → (before ≡ false) × (there ≡ false)
in_neither true before there e h = absurd (true≢false e)
in_neither false false there e h = (refl, h)
in_neither false true there e h = absurd (true≢false h)

-- After a fold a row is within its set and the form's, without p: elsewhere 0 gains nothing, and in column p it is made 0.
folded_within : {base p set before after : ℕ} {form : Lists} {step : Step} {nums₀ dens₀ nums dens : List ℤ}
    → FoldableAt base p set (both nums₀ dens₀) form → FoldsAt base p form step (both nums₀ dens₀) (both nums dens) → step ≡ (Ok tt)
    → ((c : ℕ) → holds after c ≡ (not (eqb c p) && (holds before c || holds set c))) → Within before base nums₀ → Within after base nums
folded_within {base} {p} {set} {before} {after} {form} {nums₀ = nums₀} {dens₀} {nums} {dens} asked folds done noted was =
    record { zero = λ c below out. numerator_zero (folds.row_made.sound.good (base + c) (omega arith)) (by c below out (ℕ_discrete c p)) }
  where
    by : (c : ℕ) → c < TERMS → holds after c ≡ false → Dec (c ≡ p) → value (held_at nums dens (base + c)) ≡ zero_ℚ
    by c below out (yes same) =
        let made-here = column_made folds.row_made done c (omega arith) in
        let rule = folded_solved p (row_at form.nums form.dens 0) (row_at nums₀ dens₀ base) c same in
        cc
    by c below out (no other) =
        let neither = in_neither (eqb c p) (holds before c) (holds set c) (ne_eqb c p other) (sym (noted c) ∙ out) in
        let made-here = column_made folds.row_made done c (omega arith) in
        let rule = column_stands asked c below neither.1 in
        let none = zero_numerator (asked.row.sound.good (base + c) (omega arith)) (was.zero c below neither.0) in
        cc

-- Rows of two terms stand apart.
rows_apart : (s t : ℕ) → (s ≡ t → ⊥) → (COLUMNS * s + COLUMNS ≤ COLUMNS * t) ⊎ (COLUMNS * t + COLUMNS ≤ COLUMNS * s)
rows_apart s t other = by (dec_lt s t)
  where
    by : Dec (s < t) → (COLUMNS * s + COLUMNS ≤ COLUMNS * t) ⊎ (COLUMNS * t + COLUMNS ≤ COLUMNS * s)
    by (yes before) = inl (omega arith)
    by (no after) = inr (omega arith)

module _ {n t p set : ℕ} {form : Lists} {step : Step} {old new : Work} (below : t < n) (asked : FoldableRow t p set form old)
    (folds : FoldsRow t p set form step old new) where
  -- What the fold of row t leaves of the sets: of row t, if it was not passed over, the users are pending.
  pub row_stirred : Stirred n old.nums old.dens new.nums new.dens old.sets new.sets
  row_stirred = how folds.noted
    where
      woken : Noted t p set old.sets new.sets → (s : ℕ) → Dec (s ≡ t)
          → (row_at new.nums new.dens (COLUMNS * s) ≡ row_at old.nums old.dens (COLUMNS * s)) ⊎ ((j : ℕ) → holds (users_of old.sets s) j ≡ true → holds (pending_of new.sets) j ≡ true)
      woken noted s (yes same) = inr (λ j h. noted.pending j ∙ ap (λ b. holds (pending_of old.sets) j || b) (ap (λ x. holds (users_of old.sets x) j) (sym same) ∙ h) ∙ or-true (holds (pending_of old.sets) j))
      woken noted s (no other) = inl (kept_row folds.columns.row_made.kept (COLUMNS * s) (rows_apart s t other))

      how : (new ≡ old) ⊎ Noted t p set old.sets new.sets
          → Stirred n old.nums old.dens new.nums new.dens old.sets new.sets
      how (inl same) = rw same (stirred_itself n old.nums old.dens old.sets)
      how (inr noted) =
          let small = asked.term in
          record {
            same_length = noted.same_length;
            links = λ k low rest. noted.others k (λ e. omega arith) rest;
            remembered = λ j h. noted.pending j ∙ ap (λ b. b || holds (users_of old.sets t) j) h;
            woken = λ s inside. woken noted s (ℕ_discrete s t);
          }

  -- After one that is done, every row below n is within its set again.
  pub row_sparse : n ≤ TERMS → step ≡ Ok tt → Sparse n old.nums old.sets → Sparse n new.nums new.sets
  unfolding columns_of
  row_sparse few done sparse = how folds.noted
    where
      by : Noted t p set old.sets new.sets → (s : ℕ) → s < n → Dec (s ≡ t)
          → Within (columns_of new.sets s) (COLUMNS * s) new.nums
      by noted s inside (yes same) = rw same (folded_within asked.columns folds.columns done noted.columns (sparse.within t below))
      by noted s inside (no other) = rw (noted.others s other (λ e. omega arith)) (within_kept folds.columns.row_made.kept (rows_apart s t other) (sparse.within s inside))

      how : (new ≡ old) ⊎ Noted t p set old.sets new.sets → Sparse n new.nums new.sets
      how (inl same) = rw same sparse
      how (inr noted) = record { within = λ s inside. by noted s inside (ℕ_discrete s t) }
