-- A fold of all rows, in a loop over them: the rows passed are folded, the others stand as they were.
-- Main definition: `Folding`, the loop's invariant. Main results: `passed_starts`, `passed_more`, `fold_passes`, `fold_notes`,
-- `folding_starts`, `folding_asks`, `folding_seeks`, `folding_goes_on`, `folding_stops`, `folding_ends`. Assume nothing.
use Rattle.answer.specs.declared.Reason.{Reason}
use Rattle.std.specs.Prelude.{Err, Ok, IsErrAnd}
use Rattle.std.proofs.lemmas.Result.{err_from_is_err_and}
use mathlib.Core.Path.{◌≡◌, refl, sym, ap, ◌∙◌}
use mathlib.Core.Logic.{inl, inr}
use mathlib.Core.List.{List}
use Prim.Native.Nat.{ℕ, ◌+◌, ◌*◌, ◌≤◌, ◌<◌}
use native.Mathlib.Nat.{zero-add}
use native.Mathlib.Decide.{ℕ_discrete, dec_lt}
use native.Mathlib.Omega.{arith}
use lib.IntN.{ℤ, pos}
use lib.ListN.{get_or}
use mir.Syntax.{w32}
use mir.Val.{of_z}
use Rattle.fraction.specs.declared.Fraction.{Fraction}
use Rattle.fraction_reduce.specs.Values.{value}
use Rattle.fraction.specs.Made.{made, tab}
use Rattle.fraction.proofs.Making.{tab_stopped}
use Rattle.fraction_reduce.proofs.Tests.{zero_value}
use Rattle.rules_run.specs.Row.{COLUMNS, row, row_of}
use Rattle.rules_run.specs.Merge.{folded_column, folded}
use Rattle.run_table.specs.Step.{Step}
use Rattle.run_table.specs.Held.{held_at, row_at, table_at, SoundTo, stepped}
use Rattle.run_table.specs.Lists.{Lists, both, row_in}
use Rattle.run_table.specs.Loop.{Kept}
use Rattle.run_table.specs.Sets.{Sparse, Stirred}
use Rattle.run_table.specs.Work.{Work, table_of, Rows}
use Rattle.run_table.proofs.Columns.{row_held_lem, table_length, kept_itself, kept_row, kept_within, kept_then, sound_beyond}
use Rattle.run_table.proofs.Lists.{rows_held, read_good}
use Rattle.run_table.proofs.Rows.{tab_listed}
use Rattle.run_table.proofs.Sparse.{zero_numerator, stirred_itself}
use Rattle.run_table.proofs.Stirred.{stirred_then}
use Rattle.run_table.proofs.Turns.{stepped_done, stepped_refused, refused_not_done}
use Rattle.run_fold.specs.Contract.{Noted, FoldableAt, FoldsAt, FoldableRow, FoldsRow, Passable, Passed, Foldable, Folds}
use Rattle.run_fold.proofs.Columns.{row_passed}
use Rattle.run_fold.proofs.Sets.{row_stirred, row_sparse}

-- No row is passed; one row more holds 0 at p.
pub passed_starts : {n p from : ℕ} {nums : List ℤ} → Passable n p from nums → Passed n p from from nums
passed_starts asked = record { forward = omega arith; most = asked.from_here; nothing = λ t above below. absurd (omega arith) }

pub passed_more : {n p from t : ℕ} {nums : List ℤ} → t < n → get_or nums (COLUMNS * t + p) (pos 0) ≡ pos 0 → Passed n p from t nums
    → Passed n p from (t + 1) nums
passed_more {p = p} {from} {t} {nums} below none passed =
    record { forward = omega (arith, passed.forward); most = omega arith; nothing = λ s above less. by s above less (ℕ_discrete s t) }
  where
    by : (s : ℕ) → from ≤ s → s < t + 1 → Dec (s ≡ t) → get_or nums (COLUMNS * s + p) (pos 0) ≡ pos 0
    by s above less (yes same) = rw same none
    by s above less (no other) = passed.nothing s above (omega arith)

-- A row whose coefficient at p is 0 is passed over; another is folded, and that is noted.
pub fold_passes : {t p set : ℕ} {form : Lists} {w : Work} {k : Fraction} → FoldableRow t p set form w
    → k ≡ held_at w.nums w.dens (COLUMNS * t + p) → of_z w32 k.num ≡ of_z w32 (pos 0) → FoldsRow t p set form (Ok tt) w w
fold_passes asked read none =
    let term = asked.columns.unknown.term in
    let good = read_good asked.columns.row read (omega arith) in
    record { columns = row_passed asked.columns (ap value (sym read) ∙ zero_value good none); noted = inl refl }

pub fold_notes : {t p set : ℕ} {form : Lists} {step : Step} {old new : Work}
    → FoldsAt (COLUMNS * t) p form step (both old.nums old.dens) (both new.nums new.dens)
    → Noted t p set old.sets new.sets → FoldsRow t p set form step old new
fold_notes columns noted = record { columns = columns; noted = inr noted }

-- In the loop over the rows: those below t are folded as the rule folds the table at entry, nothing from row t on has changed, all are
-- sound and within their sets, and the sets say what has happened so far.
pub record Folding (n p : ℕ) (form : Lists) (t : ℕ) (old new : Work) : Type 0 where
  pub most : t ≤ n
  pub kept : Kept 0 (COLUMNS * t) old.nums old.dens new.nums new.dens
  pub folded_below : (s : ℕ) → s < t
      → row (folded_column p (row_in form 0) (row_of (table_of n old) s)) ≡ made (row_at new.nums new.dens (COLUMNS * s))
  pub sound : SoundTo (COLUMNS * n) new.nums new.dens
  pub sparse : Sparse n new.nums new.sets
  pub stirred : Stirred n old.nums old.dens new.nums new.dens old.sets new.sets

module _ {n p set : ℕ} {form : Lists} {old : Work} (asked : Foldable n p set form old) where
  pub folding_starts : Folding n p form 0 old old
  folding_starts =
      record {
        most = omega arith;
        kept = kept_itself 0 (COLUMNS * 0) old.nums old.dens;
        folded_below = λ s below. absurd (omega arith);
        sound = asked.rows.sound;
        sparse = asked.rows.sparse;
        stirred = stirred_itself n old.nums old.dens old.sets;
      }

  module _ {t : ℕ} {w : Work} (folding : Folding n p form t old w) where
    -- The rows can be worked on as at entry,
    rows_now : Rows n w
    rows_now =
        let rows = asked.rows in
        let kept = folding.kept in
        record {
          few = rows.few;
          nums_fit = omega (arith, rows.nums_fit, kept.nums_length);
          dens_fit = omega (arith, rows.dens_fit, kept.dens_length);
          sound = folding.sound;
          size = folding.stirred.same_length ∙ rows.size;
          sparse = folding.sparse;
        }

    foldable : (s : ℕ) → s < n → FoldableAt (COLUMNS * s) p set (both w.nums w.dens) form
    foldable s below = record { unknown = asked.unknown; row = rows_held rows_now s below; form_row = asked.form_row }

    -- and the next row can be folded.
    pub folding_asks : t < n → FoldableRow t p set form w
    folding_asks below =
        record { term = omega (arith, asked.rows.few); size = rows_now.size; columns = foldable t below }

    module _ {w' : Work} {step : Step} (below : t < n) (folds : FoldsRow t p set form step w w') where
      -- The rule's row t is the one that the turn reads.
      row_read : row (folded_column p (row_in form 0) (row_of (table_of n old) t)) ≡ stepped step (row_at w'.nums w'.dens (COLUMNS * t))
      row_read =
          ap (λ r. row (folded_column p (row_in form 0) r)) (row_held_lem n old.nums old.dens t below ∙ sym (kept_row folding.kept (COLUMNS * t) (inr (omega arith))))
          ∙ folds.columns.row_made.ends

      all_kept : (m : ℕ) → COLUMNS * t + COLUMNS ≤ m → Kept 0 m old.nums old.dens w'.nums w'.dens
      all_kept m most = kept_then (kept_within folding.kept 0 m (omega arith) (omega arith)) (kept_within folds.columns.row_made.kept 0 m (omega arith) most)

      all_sound : SoundTo (COLUMNS * n) w'.nums w'.dens
      all_sound = sound_beyond (COLUMNS * n) folds.columns.row_made.kept folds.columns.row_made.sound folding.sound

      all_stirred : Stirred n old.nums old.dens w'.nums w'.dens old.sets w'.sets
      all_stirred = stirred_then asked.rows.few folding.stirred (row_stirred below (folding_asks below) folds)

      -- One row more is folded.
      one_more : step ≡ Ok tt → Folding n p form (t + 1) old w'
      unfolding stepped
      one_more done =
          record {
            most = omega arith;
            kept = all_kept (COLUMNS * (t + 1)) (omega arith);
            folded_below = λ s less. by s less (ℕ_discrete s t);
            sound = all_sound;
            sparse = row_sparse below (folding_asks below) folds asked.rows.few done folding.sparse;
            stirred = all_stirred;
          }
        where
          by : (s : ℕ) → s < t + 1 → Dec (s ≡ t)
              → row (folded_column p (row_in form 0) (row_of (table_of n old) s)) ≡ made (row_at w'.nums w'.dens (COLUMNS * s))
          by s less (yes same) = rw same (stepped_done row_read done)
          by s less (no other) = folding.folded_below s (omega arith) ∙ ap made (sym (kept_row folds.columns.row_made.kept (COLUMNS * s) (inl (omega arith))))

      -- A row is refused: the fold is.
      stops : {why : Reason} → step ≡ Err why → Folds n p form (Err why) old w'
      unfolding folded stepped
      stops {why} refused =
          record {
            ends =
                ap (λ count. tab count 0 (λ s. row (folded_column p (row_in form 0) (row_of (table_of n old) s)))) (table_length n old.nums old.dens)
                ∙ tab_stopped (λ s. row (folded_column p (row_in form 0) (row_of (table_of n old) s))) n 0 t why below (λ s h. (row_at w.nums w.dens (COLUMNS * s), rw zero-add (folding.folded_below s h)))
                (rw zero-add (stepped_refused _ row_read refused));
            kept = all_kept (COLUMNS * n) (omega arith);
            sound = all_sound;
            sparse = λ done. absurd (refused_not_done done);
            stirred = all_stirred;
          }

    -- Rows that hold 0 at p are their own folds: nothing is done, and they are folded.
    passes : {r : ℕ} → Passed n p t r w.nums → Folding n p form r old w
    unfolding stepped
    passes {r} passed =
        record {
          most = passed.most;
          kept = kept_within folding.kept 0 (COLUMNS * r) (omega arith) (omega (arith, passed.forward));
          folded_below = λ s below. by s below (dec_lt s t);
          sound = folding.sound;
          sparse = folding.sparse;
          stirred = folding.stirred;
        }
      where
        by : (s : ℕ) → s < r → Dec (s < t)
            → row (folded_column p (row_in form 0) (row_of (table_of n old) s)) ≡ made (row_at w.nums w.dens (COLUMNS * s))
        by s below (yes before) = folding.folded_below s before
        by s below (no after) =
            let inside : s < n = omega (arith, passed.most) in
            let term = asked.unknown.term in
            let none = zero_numerator (folding.sound.good (COLUMNS * s + p) (omega arith)) (passed.nothing s (omega arith) below) in
            ap (λ r. row (folded_column p (row_in form 0) r)) (row_held_lem n old.nums old.dens s inside ∙ sym (kept_row folding.kept (COLUMNS * s) (inr (omega arith))))
            ∙ (row_passed (foldable s inside) none).row_made.ends

  pub folding_stops : {t : ℕ} {w w' : Work} {why : Reason} {step : Step} → Folding n p form t old w → t < n → FoldsRow t p set form (Err why) w w'
      → IsErrAnd step (λ reason. reason ≡ why) → Folds n p form step old w'
  folding_stops {step = step} folding below folds refused =
      let p = err_from_is_err_and step refused in
      rw (p.1, p.2) (stops folding below folds refl)

  -- A row is folded, and those behind it that hold 0 at p are passed over.
  pub folding_goes_on : {t r : ℕ} {w w' : Work} → Folding n p form t old w → t < n → FoldsRow t p set form (Ok tt) w w'
      → Passed n p (t + 1) r w'.nums → Folding n p form r old w'
  folding_goes_on folding below folds passed = passes (one_more folding below folds refl) passed

  -- The rows behind a folded one can be looked at for p.
  pub folding_seeks : {t : ℕ} {w : Work} {step : Step} {nums dens : List ℤ} {sets : List ℕ} → Folding n p form t old w → t < n
      → FoldsRow t p set form step w (record { nums = nums; dens = dens; sets = sets }) → Passable n p (t + 1) nums
  folding_seeks folding below folds =
      let rows = asked.rows in
      record {
        few = rows.few;
        unknown = asked.unknown.term;
        from_here = omega arith;
        fit = omega (arith, rows.nums_fit, folding.kept.nums_length, folds.columns.row_made.kept.nums_length);
      }

  -- All rows are folded: the table is.
  pub folding_ends : {t : ℕ} {w : Work} → Folding n p form t old w → n ≤ t → Folds n p form (Ok tt) old w
  unfolding folded stepped table_at
  folding_ends {t} {w} folding over =
      let most = folding.most in
      record {
        ends =
            ap (λ count. tab count 0 (λ s. row (folded_column p (row_in form 0) (row_of (table_of n old) s)))) (table_length n old.nums old.dens)
            ∙ tab_listed (λ s. row (folded_column p (row_in form 0) (row_of (table_of n old) s))) (λ s. row_at w.nums w.dens (COLUMNS * s)) n 0 (λ s below. rw zero-add (folding.folded_below s (omega arith)));
        kept = kept_within folding.kept 0 (COLUMNS * n) (omega arith) (omega arith);
        sound = folding.sound;
        sparse = λ done. folding.sparse;
        stirred = folding.stirred;
      }
