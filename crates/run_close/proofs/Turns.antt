-- Closing, turn by turn.
-- Main results: `closing_idle`, `closing_starts`, `closing_ends`, `closing_searches`, `closing_over`, `pair_below`, `closing_merges`, `closing_merged`, `closing_stops`, `closing_goes_on`. Assume nothing.
use Rattle.std.specs.Prelude.{Result, Err, Ok, Some}
use Rattle.std.proofs.lemmas.Result.{IfOk-at_ok}
use Rattle.run_merge.specs.declared.Halt.{Halt}
use Rattle.run_merge.specs.declared.Halt.TheVariants.{Contradiction, Refused}
use mathlib.Core.Path.{◌≡◌, refl, sym, ap, ◌∙◌, subst}
use mathlib.Core.Logic.{◌≢◌, inl, inr}
use mathlib.Core.Bool.{not, ◌&&◌, false≢true}
use mathlib.Core.List.{List, []}
use mathlib.Core.Option.{Option, some, none}
use Prim.Native.Nat.{ℕ, suc, ◌+◌, ◌-◌, ◌*◌, ◌<◌, ◌≤◌}
use native.Mathlib.Omega.{arith}
use lib.Dec.{eqb}
use lib.ListN.{length, get_or, set, length-set}
use lib.Seq.{get_or-set_same, get_or-set_other}
use Rattle.set_members.specs.Sets.{holds}
use Rattle.set_members.proofs.Digits.{holds_none, holds_all}
use Rattle.fraction.specs.Made.{Made, made, ◌>>=◌}
use Rattle.rules_problem.specs.declared.Term.{Term}
use Rattle.rules_problem.specs.Problem.{Pair}
use Rattle.rules_run.specs.Merge.{State, Stop, merge}
use Rattle.rules_run.specs.Close.{due, close_for, close}
use Rattle.rules_run.specs.Run.{by_number}
use Rattle.laws_invariant.proofs.Due.{due_some}
use Rattle.run_table.specs.Notes.{Lookups}
use Rattle.run_table.specs.Loop.{Kept}
use Rattle.run_table.specs.Sets.{RIGHTS, pending_of, open_of, Looked}
use Rattle.run_table.specs.Work.{Work, with_sets, table_of, Serving, Resting}
use Rattle.run_table.proofs.Columns.{kept_itself, kept_then}
use Rattle.run_due_pair.specs.declared.Pair.{Pair as Found}
use Rattle.run_due_pair.specs.Found.{Due, PairBelow, pair_of}
use Rattle.run_due_pair.specs.Contract.{Searchable, FindsDue}
use Rattle.run_due_pair.proofs.Passed.{none_waiting}
use Rattle.run_due_pair.proofs.Steps.{no_pair}
use Rattle.run_due_pair.proofs.Woken.{closed_sleeps, pending_awake}
use Rattle.run_merge.specs.Outcome.{merged}
use Rattle.run_merge.proofs.Steps.{merges_by_number}
use Rattle.run_merge.specs.Contract.{Mergeable, Hints, state_of, Merges}
use Rattle.run_close.specs.Outcome.{closed}
use Rattle.run_close.specs.Contract.{Closes}
use Rattle.run_close.specs.Woken.{Woken}
use Rattle.run_close.proofs.Sets.{Ready, ready_of, serves, ready_merged, ready_kept, ready_woken, ready_shut, shut_watched, woken_watched}

-- In a loop that closes, after some turns: what is left to do with the lists and the count gives what closing gives; only the rows of the terms
-- have changed; each unknown solved took a turn; and what has to be looked at waits.
pub record Closing (n solved : ℕ) (heads inputs : List ℕ) (old : Work) (count turns : ℕ) (w : Work) (waiting : List ℕ) : Type 0 where
  pub rest : (terms : List Term) → Lookups terms n heads inputs
      → close by_number terms (state_of n old solved) ≡ close_for (n + 1 - turns) by_number terms (state_of n w count)
  pub kept : Kept 0 (65 * n) old.nums old.dens w.nums w.dens
  pub size : length w.sets ≡ length old.sets
  pub counted : count ≤ solved + turns
  pub serving : Serving n heads inputs waiting w
  pub sized : length waiting ≡ RIGHTS + 1

-- one turn: what the pair due gives
turn : (rank : ℕ → ℕ) (terms : List Term) (state : State) (turns : ℕ) (pair : Option Pair) → due terms state.table ≡ pair → close_for (suc turns) rank terms state ≡ elim pair [ none ↦ made state | some p ↦ merge rank p.left p.right state >>= close_for turns rank terms ]
unfolding close_for
turn rank terms state turns pair e =
    ap (λ o. elim o as (λ x. Made Stop State) [ none ↦ made state | some p ↦ merge rank p.left p.right state >>= close_for turns rank terms ]) e

-- What a merge of the pair due leaves, by its answer: the loop goes on or is over.
pub record Turned (n solved : ℕ) (heads inputs : List ℕ) (old : Work) (count turns : ℕ) (w : Work) (waiting : List ℕ) (answer : Result ℕ Halt) : Type 0 where
  pub on : (more : ℕ) → answer ≡ Ok more → Closing n solved heads inputs old (count + more) turns w waiting
  pub stops : (halt : Halt) → answer ≡ Err halt → Closes n solved heads inputs (Err halt) old w

module _ {n : ℕ} (solved : ℕ) {heads inputs : List ℕ} {w : Work} (resting : Resting n heads inputs w) where
  -- Where no lookup is pending, none is due.
  pub closing_idle : pending_of w.sets ≡ 0 → Closes n solved heads inputs (Ok solved) w w
  unfolding close closed
  closing_idle asleep =
      record {
        answers = λ terms lookups.
            turn by_number terms (state_of n w solved) (length terms) none (none_waiting (resting.watched terms lookups) lookups.count asleep (λ i j waits. false≢true (sym (holds_none i) ∙ waits.left)));
        kept = kept_itself _ _ w.nums w.dens;
        sound = resting.rows.sound;
        size = refl;
        counted = omega arith;
        resting = resting;
      }

  pub closing_starts : (waiting : List ℕ) → length waiting ≡ RIGHTS + 1 → Closing n solved heads inputs w solved 0 w waiting
  unfolding close
  closing_starts waiting sized =
      record {
        rest = λ terms lookups. let all : suc (length terms) ≡ n + 1 - 0 = omega (arith, lookups.count) in rw all;
        kept = kept_itself _ _ w.nums w.dens;
        size = refl;
        counted = omega arith;
        serving = serves (ready_of resting) λ terms lookups.
            let awake = resting.watched terms lookups in
            record { found = λ i j before below is i-open j-open. by i j (awake.found i j before below is i-open j-open); others = awake.others };
        sized = sized;
      }
    where
      by : (i j : ℕ) → Looked [] w.sets i j → Looked waiting w.sets i j
      by i j (inl none-waits) = absurd (false≢true (sym (holds_none i) ∙ none-waits.left))
      by i j (inr stirred) = inr stirred

module _ {n solved : ℕ} {heads inputs : List ℕ} {old : Work} {count turns : ℕ} {w : Work} {waiting : List ℕ} (closing : Closing n solved heads inputs old count turns w waiting) where
  -- The budget is spent: every lookup is to be looked at again.
  pub closing_ends : turns ≡ n + 1 → Closes n solved heads inputs (Ok count) old (with_sets w (set w.sets 192 18446744073709551615))
  unfolding close_for closed pending_of open_of
  closing_ends spent =
      let none_left : n + 1 - turns ≡ 0 = omega arith in
      let all : ℕ = 18446744073709551615 in
      let sets = w.sets in
      let place : 192 < length sets = omega (arith, closing.serving.rows.size) in
      let other : (k : ℕ) → k ≢ 192 → get_or (set sets 192 all) k 0 ≡ get_or sets k 0 = λ k apart. get_or-set_other sets 192 k all 0 apart in
      record {
        answers = λ terms lookups. closing.rest terms lookups ∙ rw none_left;
        kept = closing.kept;
        sound = closing.serving.rows.sound;
        size = length-set sets 192 all ∙ closing.size;
        counted = omega (arith, closing.counted);
        resting = serves (ready_kept (ready_of closing.serving) (length-set sets 192 all) (λ k low. other k (λ e. omega arith))) λ terms lookups.
            pending_awake closing.serving.rows.few (λ k low. ap (λ s. holds s k) (get_or-set_same sets 192 all 0 place) ∙ holds_all k low) (λ j below out. (closing.serving.watched terms lookups).others j below (ap (λ s. holds s j) (sym (other 193 (λ e. omega arith))) ∙ out));
      }

  module _ {sets₁ waiting₁ : List ℕ} (woken : Woken n w.sets sets₁ waiting waiting₁) where
    served : Ready n heads inputs (with_sets w sets₁)
    served = ready_woken (ready_of closing.serving) waiting waiting₁ woken

    -- The pairs wait that are to be compared.
    pub closing_searches : Searchable n heads inputs waiting₁ (with_sets w sets₁)
    closing_searches =
        record {
          serving = serves served λ terms lookups. woken_watched waiting waiting₁ closing.serving.rows.few lookups closing.serving.linked woken (closing.serving.watched terms lookups);
          waiting_fit = omega (arith, woken.grown.same_length, closing.sized);
          asleep = woken.asleep;
        }

    module _ {waiting₂ : List ℕ} {found : Due} (finds : FindsDue n heads inputs waiting₂ (with_sets w sets₁) found) (some_left : turns < n + 1) where
      one_more : n + 1 - turns ≡ suc (n + 1 - (turns + 1))
      one_more = omega arith

      step : (terms : List Term) (lookups : Lookups terms n heads inputs) → (pair : Option Pair) → pair_of found ≡ pair → close by_number terms (state_of n old solved) ≡ elim pair [ none ↦ made (state_of n w count) | some p ↦ merge by_number p.left p.right (state_of n w count) >>= close_for (n + 1 - (turns + 1)) by_number terms ]
      step terms lookups pair e =
          closing.rest terms lookups
          ∙ ap (λ k. close_for k by_number terms (state_of n w count)) one_more
          ∙ turn by_number terms (state_of n w count) (n + 1 - (turns + 1)) pair (finds.pair terms lookups ∙ e)

      -- No pair is due.
      pub closing_over : ((pair : Found) → found ≡ Some pair → ⊥) → Closes n solved heads inputs (Ok count) old (with_sets w sets₁)
      unfolding pair_of closed
      closing_over none_found =
          let none_due = no_pair found none_found in
          record {
            answers = λ terms lookups. step terms lookups none none_due;
            kept = closing.kept;
            sound = closing.serving.rows.sound;
            size = woken.same_length ∙ closing.size;
            counted = omega (arith, closing.counted);
            resting = serves served λ terms lookups. closed_sleeps lookups.count (finds.pair terms lookups ∙ none_due) (finds.serving.watched terms lookups);
          }

      -- The pair due is merged, its right side shut.
      module _ {pair : Found} (is-pair : found ≡ Some pair) (shut : ℕ) where
        pub pair_below : (pair.left < pair.right) × (pair.right < n)
        unfolding PairBelow
        pair_below = subst (PairBelow n) is-pair finds.below

        pub closing_merges : Mergeable n pair.left pair.right (with_sets w (set sets₁ 193 shut))
        closing_merges = let order = pair_below in record { rows = (ready_shut served shut).rows; left = omega arith; right = omega arith }

        module _ (told : (k : ℕ) → holds shut k ≡ (not (eqb k pair.right) && holds (open_of sets₁) k))
            {answer : Result ℕ Halt} {new : Work} (merges : Merges n pair.left pair.right 0 answer (with_sets w (set sets₁ 193 shut)) new) (same_length : length waiting₂ ≡ length waiting₁) where
          after : (to : Result ℕ Halt) → answer ≡ to → (terms : List Term) → Lookups terms n heads inputs → close by_number terms (state_of n old solved) ≡ merged to count (table_of n new) >>= close_for (n + 1 - (turns + 1)) by_number terms
          unfolding pair_of
          after to is terms lookups =
              step terms lookups (some (record { left = pair.left; right = pair.right })) (ap pair_of is-pair)
              ∙ ap (λ m. m >>= close_for (n + 1 - (turns + 1)) by_number terms) (merges_by_number merges count ∙ ap (λ m. merged m count (table_of n new)) is)

          kept_on : Kept 0 (65 * n) old.nums old.dens new.nums new.dens
          kept_on = kept_then closing.kept merges.left.kept

          size_on : length new.sets ≡ length old.sets
          size_on = merges.left.size ∙ length-set sets₁ 193 shut ∙ woken.same_length ∙ closing.size

          pub closing_merged : Turned n solved heads inputs old count (turns + 1) new waiting₂ answer
          unfolding pair_of merged ◌>>=◌ closed
          closing_merged = record {
            on = λ more is.
                let few : more ≤ 1 = IfOk-at_ok (λ m. m ≤ 1) is merges.left.one in
                let hints : Hints n (with_sets w (set sets₁ 193 shut)) new = IfOk-at_ok (λ m. Hints n (with_sets w (set sets₁ 193 shut)) new) is merges.left.hints in
                record {
                  rest = after (Ok more) is;
                  kept = kept_on;
                  size = size_on;
                  counted = omega (arith, closing.counted);
                  serving = serves (ready_merged (ready_shut served shut) merges.left hints) λ terms lookups.
                      shut_watched pair.left pair.right count (count + more) lookups served.notes.below (ready_shut served shut).linked hints.stirred (merges_by_number merges count ∙ ap (λ m. merged m count (table_of n new)) is)
                      waiting₂ shut served.rows.size refl told (due_some terms (table_of n w) (record { left = pair.left; right = pair.right }) (finds.pair terms lookups ∙ ap pair_of is-pair)) (finds.serving.watched terms lookups);
                  sized = omega (arith, same_length, woken.grown.same_length, closing.sized);
                };
            stops = λ halt is. record { answers = λ terms lookups. after (Err halt) is terms lookups ∙ stopped_so halt terms; kept = kept_on; sound = merges.left.sound; size = size_on; counted = tt; resting = tt };
          }
            where
              stopped_so : (halt : Halt) (terms : List Term) → merged (Err halt) count (table_of n new) >>= close_for (n + 1 - (turns + 1)) by_number terms ≡ closed (Err halt) (table_of n new)
              stopped_so Contradiction terms = refl
              stopped_so (Refused number) terms = refl

          -- A merge that stops ends closing, whatever it stops with, and after another the loop goes on.
          pub closing_stops : {halt : Halt} → answer ≡ Err halt → Closes n solved heads inputs (Err halt) old new
          closing_stops {halt} is = closing_merged.stops halt is

          pub closing_goes_on : {more : ℕ} → answer ≡ Ok more → Closing n solved heads inputs old (count + more) (turns + 1) new waiting₂
          closing_goes_on {more} is = closing_merged.on more is
