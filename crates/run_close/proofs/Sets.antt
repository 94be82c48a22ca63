-- The sets after a merge, and where lookups are noted pair by pair.
-- Main results: `Ready`, `ready_of`, `serves`, `ready_merged`, `ready_kept`, `ready_woken`, `ready_shut`, `merged_awake`, `shut_watched`, `woken_watched`. Assume nothing.
use mathlib.Core.Path.{◌≡◌, refl, sym, ap, ap₂, ◌∙◌, subst}
use mathlib.Core.Logic.{◌⊎◌, inl, inr}
use mathlib.Core.Bool.{Bool, true, false, not, ◌&&◌, ◌||◌, false≢true, and-eq-true_iff, or-true}
use mathlib.Core.List.{List, []}
use Prim.Native.Nat.{ℕ, ◌*◌, ◌≤◌, ◌<◌}
use native.Mathlib.Decide.{ℕ_discrete}
use native.Mathlib.Omega.{arith}
use borrow.Author.Tests.{ne_eqb}
use lib.Dec.{eqb}
use lib.ListN.{length, get_or, set, length-set}
use lib.Seq.{get_or-set_same, get_or-set_other}
use lib.IntN.{ℤ}
use Rattle.set_members.specs.Sets.{holds}
use Rattle.fraction.specs.Made.{made}
use Rattle.rules_problem.specs.declared.Term.{Term}
use Rattle.rules_run.specs.Row.{Table, same_row}
use Rattle.rules_run.specs.Close.{is_due}
use Rattle.rules_run.specs.Merge.{merge}
use Rattle.rules_run.specs.Run.{by_number}
use Rattle.laws_invariant.proofs.Due.{T_true, Due}
use Rattle.laws_invariant.proofs.Keeps.{merge_keeps_equal}
use Rattle.laws_invariant.proofs.Meets.{merge_meets}
use Rattle.laws_invariant.proofs.Rows.{same_rows_equal}
use Rattle.run_table.specs.Notes.{Lookups, InputsBelow, Notes}
use Rattle.run_table.specs.Held.{table_at}
use Rattle.run_table.specs.Sets.{Within, columns_of, pending_of, open_of, Linked, Twin, Shut, Waits, Looked, Finds, Watched, Stirred}
use Rattle.run_table.specs.Work.{Work, with_sets, table_of, Rows, Serving}
use Rattle.run_due_pair.proofs.Heads.{due_heads}
use Rattle.run_due_pair.proofs.Twins.{rows_kept, shut_kept}
use Rattle.run_due_pair.proofs.Woken.{linked_kept, stirred_finds}
use Rattle.run_merge.specs.declared.Halt.{Halt}
use Rattle.std.specs.Prelude.{Result}
use Rattle.run_merge.specs.Contract.{Hints, Left}
use Rattle.run_close.specs.Woken.{Woken}

-- What serves whatever is pending or open: the rows, the notes and the links.
pub record Ready (n : ℕ) (heads inputs : List ℕ) (w : Work) : Type 0 where
  pub rows : Rows n w
  pub notes : Notes n heads inputs
  pub linked : Linked n heads inputs w.sets

pub ready_of : {n : ℕ} {heads inputs waiting : List ℕ} {w : Work} → Serving n heads inputs waiting w → Ready n heads inputs w
ready_of serving = record { rows = serving.rows; notes = serving.notes; linked = serving.linked }

-- With a watch on what is pending and open, the sets serve.
pub serves : {n : ℕ} {heads inputs waiting : List ℕ} {w : Work} → Ready n heads inputs w → ((terms : List Term) → Lookups terms n heads inputs → Watched waiting terms n (table_of n w) w.sets) → Serving n heads inputs waiting w
serves ready watched = record { rows = ready.rows; notes = ready.notes; linked = ready.linked; watched = watched }

module _ {n : ℕ} {heads inputs : List ℕ} {w : Work} (ready : Ready n heads inputs w) where
  -- A merge keeps the links, and notes the columns of the rows that it changes.
  pub ready_merged : {r : Result ℕ Halt} {new : Work} → Left n r w new → Hints n w new → Ready n heads inputs new
  ready_merged left hints =
      let rows = ready.rows in
      let kept = left.kept in
      record {
        rows = record { few = rows.few; nums_fit = omega arith; dens_fit = omega arith; sound = left.sound; size = hints.stirred.same_length ∙ rows.size; sparse = hints.sparse };
        notes = ready.notes;
        linked = linked_kept rows.few ready.notes.below (λ k low high. hints.stirred.links k low (λ e. omega arith)) ready.linked;
      }

  -- Whatever is pending or open, the rest stays.
  pub ready_kept : {sets' : List ℕ} → length sets' ≡ length w.sets → ((k : ℕ) → k < 192 → get_or sets' k 0 ≡ get_or w.sets k 0) → Ready n heads inputs (with_sets w sets')
  unfolding columns_of
  ready_kept same_length same =
      let rows = ready.rows in
      let few = rows.few in
      record {
        rows = record { few = few; nums_fit = rows.nums_fit; dens_fit = rows.dens_fit; sound = rows.sound; size = same_length ∙ rows.size; sparse = record { within = λ t below. subst (λ s. Within s (65 * t) w.nums) (sym (same t (omega arith))) (rows.sparse.within t below) } };
        notes = ready.notes;
        linked = linked_kept few ready.notes.below (λ k low high. same k high) ready.linked;
      }

  -- So where pairs are noted, and where a lookup is shut.
  pub ready_woken : {sets₁ : List ℕ} (waiting waiting₁ : List ℕ) → Woken n w.sets sets₁ waiting waiting₁ → Ready n heads inputs (with_sets w sets₁)
  ready_woken waiting waiting₁ woken = ready_kept woken.same_length (λ k low. woken.others k (λ e. omega arith))

  pub ready_shut : (shut : ℕ) → Ready n heads inputs (with_sets w (set w.sets 193 shut))
  ready_shut shut = ready_kept (length-set w.sets 193 shut) (λ k low. get_or-set_other w.sets 193 k shut 0 (λ e. omega arith))

-- A set without one number.
shut_cases : (same before : Bool) → (not same && before) ≡ false → (same ≡ true) ⊎ (before ≡ false)
shut_cases true before e = inl refl
shut_cases false before e = inr e

eqb_same : (k l : ℕ) → eqb k l ≡ true → k ≡ l
eqb_same k l e = by (ℕ_discrete k l)
  where
    by : Dec (k ≡ l) → k ≡ l
    by (yes same) = same
    by (no other) = absurd (false≢true (sym (ne_eqb k l other) ∙ e))

module _ {terms : List Term} {n : ℕ} {heads inputs : List ℕ} {nums dens nums' dens' : List ℤ} {sets sets' : List ℕ} (left right before after : ℕ)
    (lookups : Lookups terms n heads inputs) (inputs_below : InputsBelow n inputs) (linked : Linked n heads inputs sets)
    (stirred : Stirred n nums dens nums' dens' sets sets')
    (goes_on : merge by_number left right (record { table = table_at n nums dens; solved = before }) ≡ made (record { table = table_at n nums' dens'; solved = after })) where
  -- A merge leaves equal rows equal, so no pair falls due whose sides are not pending.
  stay : (t u : ℕ) → same_row (table_at n nums dens) t u ≡ true → same_row (table_at n nums' dens') t u ≡ true
  stay = merge_keeps_equal by_number _ _ left right goes_on

  finds_on : (waiting : List ℕ) → Finds waiting terms n (table_at n nums dens) sets → Finds waiting terms n (table_at n nums' dens') sets'
  finds_on waiting = stirred_finds lookups inputs_below linked stirred waiting stay

  same_open : open_of sets' ≡ open_of sets
  unfolding open_of
  same_open = stirred.links 193 (omega arith) (λ e. omega arith)

  pub merged_awake : Watched [] terms n (table_at n nums dens) sets → Watched [] terms n (table_at n nums' dens') sets'
  merged_awake awake =
      record {
        found = finds_on [] awake.found;
        others = λ j below out. shut_kept stay (awake.others j below (ap (λ s. holds s j) (sym same_open) ∙ out));
      }

  -- In closing the right side of the pair due is shut before the merge, which makes it a twin of the left side.
  pub shut_watched : (waiting : List ℕ) {sets₁ : List ℕ} (shut : ℕ) → length sets₁ ≡ 194 → sets ≡ set sets₁ 193 shut → ((k : ℕ) → holds shut k ≡ (not (eqb k right) && holds (open_of sets₁) k)) → Due terms (table_at n nums dens) left right → Watched waiting terms n (table_at n nums dens) sets₁ → Watched waiting terms n (table_at n nums' dens') sets'
  unfolding open_of pending_of
  shut_watched waiting {sets₁} shut size stored told due watched =
      record { found = finds_on waiting still; others = λ j below out. by j below (shut_cases (eqb j right) (holds (open_of sets₁) j) (sym (told j) ∙ ap (λ s. holds s j) (sym now_shut ∙ sym same_open) ∙ out)) }
    where
      now_shut : get_or sets 193 0 ≡ shut
      now_shut = ap (λ s. get_or s 193 0) stored ∙ get_or-set_same sets₁ 193 shut 0 (omega arith)

      was_open : (k : ℕ) → holds (get_or sets 193 0) k ≡ true → holds (get_or sets₁ 193 0) k ≡ true
      was_open k inside = ((and-eq-true_iff (not (eqb k right)) (holds (get_or sets₁ 193 0) k)).0 (sym (told k) ∙ ap (λ s. holds s k) (sym now_shut) ∙ inside)).1

      same_pending : get_or sets 192 0 ≡ get_or sets₁ 192 0
      same_pending = ap (λ s. get_or s 192 0) stored ∙ get_or-set_other sets₁ 193 192 shut 0 (λ e. omega arith)

      looked : (i j : ℕ) → Looked waiting sets₁ i j → Looked waiting sets i j
      looked i j (inl waits) = inl waits
      looked i j (inr (inl was)) = inr (inl (ap (λ s. holds s i) same_pending ∙ was))
      looked i j (inr (inr was)) = inr (inr (ap (λ s. holds s j) same_pending ∙ was))

      still : Finds waiting terms n (table_at n nums dens) sets
      still i j first below is i-open j-open = looked i j (watched.found i j first below is (was_open i i-open) (was_open j j-open))

      merged : Twin terms (table_at n nums' dens') left right
      merged = record { order = due.before; similar = T_true _ due.similar; inputs = rows_kept _ _ stay _ _ ((same_rows_equal (table_at n nums dens) _ _).1 due.inputs); own = merge_meets by_number _ _ left right goes_on }

      by : (j : ℕ) → j < n → (eqb j right ≡ true) ⊎ (holds (open_of sets₁) j ≡ false) → Shut terms (table_at n nums' dens') j
      by j below (inl same) = inr (left, subst (Twin terms (table_at n nums' dens') left) (sym (eqb_same j right same)) merged)
      by j below (inr out) = shut_kept stay (watched.others j below out)

-- The pairs of pending lookups wait.
pub woken_watched : {terms : List Term} {n : ℕ} {table : Table} {heads inputs sets₀ sets : List ℕ} (waiting₀ waiting : List ℕ) → n ≤ 64 → Lookups terms n heads inputs → Linked n heads inputs sets₀ → Woken n sets₀ sets waiting₀ waiting → Watched waiting₀ terms n table sets₀ → Watched waiting terms n table sets
unfolding open_of
woken_watched {terms} {n} {table} {heads} {inputs} {sets₀} {sets} waiting₀ waiting few lookups linked woken watched =
    record {
      found = λ i j before below is i-open j-open.
          let was_open = ap (λ s. holds s i) (sym same_open) ∙ i-open in
          let right-open = ap (λ s. holds s j) (sym same_open) ∙ j-open in
          inl (by i j before below is was_open right-open (watched.found i j before below is was_open right-open));
      others = λ j below out. watched.others j below (ap (λ s. holds s j) (sym same_open) ∙ out);
    }
  where
    same_open : get_or sets 193 0 ≡ get_or sets₀ 193 0
    same_open = woken.others 193 (λ e. omega arith)

    noted : (i j : ℕ) → i < j → j < n → is_due terms table i j ≡ true → holds (open_of sets₀) i ≡ true → holds (open_of sets₀) j ≡ true → (holds (pending_of sets₀) i || holds (pending_of sets₀) j) ≡ true → Waits waiting i j
    noted i j before below is left right stirred =
        let one = due_heads terms n heads inputs lookups table i j (omega arith) below is in
        woken.adds i j before below right (ap₂ ◌&&◌ (ap₂ ◌&&◌ (linked.earlier i j before below one.0 one.1) left) stirred)

    by : (i j : ℕ) → i < j → j < n → is_due terms table i j ≡ true → holds (open_of sets₀) i ≡ true → holds (open_of sets₀) j ≡ true → Looked waiting₀ sets₀ i j → Waits waiting i j
    by i j before below is left right (inl waits) = woken.grown.keeps i j (omega arith) waits
    by i j before below is left right (inr (inl first)) = noted i j before below is left right (ap (λ b. b || holds (pending_of sets₀) j) first)
    by i j before below is left right (inr (inr second)) = noted i j before below is left right (ap (λ b. holds (pending_of sets₀) i || b) second ∙ or-true (holds (pending_of sets₀) i))
