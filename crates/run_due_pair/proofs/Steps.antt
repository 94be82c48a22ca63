-- The functions of the search, step by step: what each comes to, by what the functions that it calls answer.
-- Main results: of one pair `no_head`, `heads_told`, `inputs_comparable`, `unlike_pair`, `inputs_differ`,
-- `rows_decide`; of one right side `Choosing`, `choosing_starts`, `choosing_found`, `choosing_less`, `choosing_on`, `choosing_over`; of all of them `Searching`,
-- `no_pair`, `searching_starts`, `searching_found`, `searching_on`, `searching_over`; `no_pair`. Assume nothing.
use mathlib.Core.Path.{◌≡◌, refl, sym, ap, ap₂, ◌∙◌, subst}
use mathlib.Core.Bool.{Bool, true, false, not, ◌&&◌, cond, false≢true, and-eq-true_iff}
use mathlib.Core.List.{List}
use mathlib.Core.Option.{some, none}
use Prim.Native.Nat.{ℕ, ◌+◌, ◌-◌, ◌*◌, ◌<◌, ◌≤◌}
use native.Mathlib.Omega.{arith}
use lib.Dec.{eqb}
use lib.ListN.{length, get_or}
use Rattle.set_members.specs.Sets.{holds}
use Rattle.set_extremes.specs.Extremes.{Next, Rest}
use Rattle.set_extremes.proofs.Taken.{From, from_starts, from_first, from_here, from_rest}
use Rattle.rules_problem.specs.declared.Term.{Term}
use Rattle.rules_problem.specs.Lookup.{alike, kind_at}
use Rattle.rules_run.specs.Row.{same_row}
use Rattle.rules_run.specs.Close.{is_due, first}
use Rattle.laws_invariant.proofs.Pivot.{last_or_before}
use Rattle.run_table.specs.Notes.{Lookups}
use Rattle.run_table.specs.Sets.{RIGHTS, open_of, Waits, Watched}
use Rattle.run_table.specs.Work.{Work, table_of, Serving}
use Rattle.run_equal_rows.specs.Contract.{Comparable}
use Rattle.std.specs.Prelude.{Some, None}
use Rattle.run_due_pair.specs.declared.Pair.{Pair as Found}
use Rattle.run_due_pair.specs.Found.{Due, same_inputs, left_for, pair_among, left_among, pair_of, PairBelow, RightPassed}
use Rattle.run_due_pair.specs.Contract.{Alike, InputsComparable, PairComparable, TellsDue, OpenWaiting, LeftsSearchable, FindsLeft, Searchable, FindsDue}
use Rattle.run_due_pair.proofs.Heads.{no_lookup, one_head, due_alike, due_unlike}
use Rattle.run_due_pair.proofs.Passed.{among_there, among_passed, left_watched, rights_passed, watched_passed}
use Rattle.run_due_pair.proofs.Search.{first_passed, first_found, first_over, first_skips, first_nowhere, pair_given, among_searched, due_searched}

-- The head 0 is alike no other; any other head is alike the terms that have it.
pub no_head : {i j : ℕ} {heads : List ℕ} → get_or heads i 0 ≡ 0 → Alike i j heads (not (eqb (get_or heads i 0) 0))
no_head none-there = rw none-there record { tells = λ k l left right small small'. sym (no_lookup k l (sym left ∙ none-there)) }

pub heads_told : {i j : ℕ} {heads : List ℕ} → (get_or heads i 0 ≡ 0 → ⊥) → Alike i j heads (eqb (get_or heads i 0) (get_or heads j 0))
heads_told some-head = record { tells = λ k l left right small small'. ap₂ eqb left right ∙ one_head k l small small' (λ nothing. some-head (left ∙ nothing)) }

-- The inputs of two lookups, place by place.
module _ {n i j : ℕ} {inputs : List ℕ} {w : Work} (asked : InputsComparable n i j inputs w) where
  pub inputs_comparable : (k : ℕ) → k < 3 → Comparable n (get_or inputs (3 * i + k) 0) (get_or inputs (3 * j + k) 0) w
  inputs_comparable k place = record { rows = asked.rows; left = asked.inputs_below.below i k asked.left place; right = asked.inputs_below.below j k asked.right place }

-- One pair: the function, the inputs, the rows of their own.
module _ {n i j : ℕ} {heads inputs : List ℕ} {w : Work} (asked : PairComparable n i j heads inputs w) (a : Bool) (function : Alike i j heads a) where
  alike_is : (terms : List Term) → Lookups terms n heads inputs → a ≡ alike (kind_at terms i) (kind_at terms j)
  alike_is terms lookups =
      let left : i < n = omega (arith, asked.order, asked.right) in
      function.tells (kind_at terms i) (kind_at terms j) (lookups.calls.head i left) (lookups.calls.head j asked.right) (lookups.symbols i left) (lookups.symbols j asked.right)

  pub unlike_pair : a ≡ false → TellsDue n i j heads inputs w false
  unlike_pair other =
      record { tells = λ terms lookups. sym (due_unlike terms n heads inputs lookups (table_of n w) i j (omega (arith, asked.order, asked.right)) asked.right (sym (alike_is terms lookups) ∙ other)) }

  module _ (similar : a ≡ true) (b : Bool) (equal : b ≡ same_inputs (table_of n w) inputs i j) where
    told : (terms : List Term) → Lookups terms n heads inputs → {test : Bool} → b && not (same_row (table_of n w) i j) ≡ test → test ≡ is_due terms (table_of n w) i j
    told terms lookups is =
        sym (due_alike terms n heads inputs lookups (table_of n w) i j (omega (arith, asked.order, asked.right)) asked.right (sym (alike_is terms lookups) ∙ similar)
        ∙ ap (λ x. x && not (same_row (table_of n w) i j)) (sym equal) ∙ is)

    pub inputs_differ : b ≡ false → TellsDue n i j heads inputs w false
    inputs_differ other = record { tells = λ terms lookups. told terms lookups (ap (λ x. x && not (same_row (table_of n w) i j)) other) }

    pub rows_decide : b ≡ true → {own : Bool} → own ≡ same_row (table_of n w) i j → TellsDue n i j heads inputs w (not own)
    rows_decide same own_is = record { tells = λ terms lookups. told terms lookups (ap₂ (λ x y. x && not y) same (sym own_is)) }

-- In the loop over the left sides of j: those from i on are left, and give what all of them give.
pub record Choosing (n lefts j : ℕ) (heads inputs : List ℕ) (w : Work) (rest i : ℕ) : Type 0 where
  pub from : From lefts i rest
  pub next : Next rest 0 i
  pub same : (terms : List Term) → Lookups terms n heads inputs
      → left_among lefts terms (table_of n w) j ≡ first (j - i) i (pair_among lefts terms (table_of n w) j)

module _ {n j : ℕ} {heads inputs : List ℕ} {w : Work} (asked : LeftsSearchable n j heads inputs w) {lefts : ℕ} where
  -- from one number on to the next of the lefts
  on_from : {from on : ℕ} → Next lefts from on → (terms : List Term)
      → first (j - from) from (pair_among lefts terms (table_of n w) j) ≡ first (j - on) on (pair_among lefts terms (table_of n w) j)
  on_from {from} {on} next terms =
      first_skips _ j from on next.forward λ k above short low. among_passed lefts terms (table_of n w) j k (next.none_between k above short)

  pub choosing_starts : {i : ℕ} → Next lefts 0 i → Choosing n lefts j heads inputs w lefts i
  choosing_starts next =
      record { from = from_here (omega arith) (from_starts lefts) next; next = next; same = λ terms lookups. among_searched lefts terms (table_of n w) j ∙ on_from next terms }

  module _ {rest i : ℕ} (choosing : Choosing n lefts j heads inputs w rest i) where
    -- None of them is due.
    pub choosing_over : j ≤ i → FindsLeft n lefts j heads inputs w None
    unfolding pair_of PairBelow
    choosing_over over = record { pair = λ terms lookups. choosing.same terms lookups ∙ first_over _ j i over; below = tt }

    module _ (before : i < j) {r : Bool} (tells : TellsDue n i j heads inputs w r) where
      given : (terms : List Term) → Lookups terms n heads inputs → pair_among lefts terms (table_of n w) j i ≡ cond r (some (record { left = i; right = j })) none
      given terms lookups =
          let few : i < 64 = omega (arith, asked.right, asked.rows.few) in
          among_there lefts terms (table_of n w) j i (sym (choosing.from.same i (omega arith)) ∙ choosing.next.inside few)
          ∙ pair_given terms (table_of n w) j i r (tells.tells terms lookups)

      -- This one is,
      pub choosing_found : r ≡ true → FindsLeft n lefts j heads inputs w (Some (record { left = i; right = j }))
      unfolding pair_of PairBelow
      choosing_found is =
          record {
            pair = λ terms lookups. choosing.same terms lookups ∙ first_found _ j i _ before (given terms lookups ∙ ap (λ b. cond b (some (record { left = i; right = j })) none) is);
            below = (before, asked.right);
          }

      -- or the loop goes on with the next.
      module _ (other : r ≡ false) {rest' i' : ℕ} (taken : Rest rest rest') (next : Next rest' 0 i') where
        later : From lefts (i + 1) rest'
        later = let few : i < 64 = omega (arith, asked.right, asked.rows.few) in from_rest (omega arith) choosing.from choosing.next taken

        onward : Next lefts (i + 1) i'
        onward = from_first (omega (arith, asked.right, asked.rows.few)) later next

        pub choosing_less : j - i' < j - i
        choosing_less = omega (arith, onward.forward)

        pub choosing_on : Choosing n lefts j heads inputs w rest' i'
        choosing_on =
            record {
              from = from_here (omega (arith, asked.right, asked.rows.few)) later next;
              next = next;
              same = λ terms lookups.
                  choosing.same terms lookups
                  ∙ first_passed _ j i before (given terms lookups ∙ ap (λ b. cond b (some (record { left = i; right = j })) none) other)
                  ∙ on_from onward terms;
            }

-- A search that finds no pair finds nothing.
pub no_pair : (r : Due) → ((pair : Found) → r ≡ Some pair → ⊥) → pair_of r ≡ none
unfolding pair_of
no_pair None none_found = refl
no_pair (Some pair) none_found = absurd (none_found pair refl)

-- In the loop over the right sides: none before j has a pair due, and the sets serve with what waits now, which is no more than at the start.
pub record Searching (n : ℕ) (heads inputs waiting₀ : List ℕ) (w : Work) (waiting : List ℕ) (j : ℕ) : Type 0 where
  pub same_length : length waiting ≡ length waiting₀
  pub fewer : (k : ℕ) → holds (get_or waiting RIGHTS 0) k ≡ true → holds (get_or waiting₀ RIGHTS 0) k ≡ true
  pub watched : (terms : List Term) → Lookups terms n heads inputs → Watched waiting terms n (table_of n w) w.sets
  pub none_yet : (terms : List Term) → Lookups terms n heads inputs → (k : ℕ) → k < j → k < n → left_for terms (table_of n w) k ≡ none

module _ {n : ℕ} {heads inputs waiting₀ : List ℕ} {w : Work} (asked : Searchable n heads inputs waiting₀ w) where
  -- no open lookup waits for a right side that is passed over
  idle : {rights : ℕ} → OpenWaiting RIGHTS waiting₀ w.sets rights → {waiting : List ℕ} {from on : ℕ} → ((k : ℕ) → holds (get_or waiting RIGHTS 0) k ≡ true → holds (get_or waiting₀ RIGHTS 0) k ≡ true) → Next rights from on
      → (k : ℕ) → from ≤ k → k < on → (i : ℕ) → holds (open_of w.sets) i ≡ true → holds (open_of w.sets) k ≡ true → Waits waiting i k → ⊥
  idle rights-open fewer next k above short i left right waits = false≢true (sym (next.none_between k above short) ∙ rights-open.inside k ∙ ap₂ ◌&&◌ (fewer k waits.right) right)

  pub searching_starts : {rights : ℕ} → OpenWaiting RIGHTS waiting₀ w.sets rights → {j : ℕ} → Next rights 0 j → Searching n heads inputs waiting₀ w waiting₀ j
  searching_starts rights-open next =
      record {
        same_length = refl;
        fewer = λ k inside. inside;
        watched = asked.serving.watched;
        none_yet = λ terms lookups. rights_passed (asked.serving.watched terms lookups) asked.asleep 0 _ (idle rights-open (λ k inside. inside) next) (λ k low. absurd (omega arith));
      }

  module _ {waiting : List ℕ} {j : ℕ} (searching : Searching n heads inputs waiting₀ w waiting j) where
    served : Serving n heads inputs waiting w
    served = let serving = asked.serving in record { rows = serving.rows; notes = serving.notes; linked = serving.linked; watched = searching.watched }

    -- No right side is left.
    pub searching_over : n ≤ j → FindsDue n heads inputs waiting w None
    unfolding pair_of PairBelow
    searching_over over =
        record {
          pair = λ terms lookups. due_searched terms (table_of n w) n lookups.count ∙ first_nowhere (left_for terms (table_of n w)) n (λ k below. searching.none_yet terms lookups k (omega arith) below);
          below = tt;
          serving = served;
        }

    module _ (below : j < n) {lefts : ℕ} (lefts-open : OpenWaiting j waiting w.sets lefts) {r : Due} (finds : FindsLeft n lefts j heads inputs w r) where
      -- the search among the lefts gives the pair due of this right side
      left_is : (terms : List Term) → Lookups terms n heads inputs → left_for terms (table_of n w) j ≡ pair_of r
      left_is terms lookups =
          left_watched (searching.watched terms lookups) asked.asleep lefts j below (λ i left right waits. lefts-open.inside i ∙ ap₂ ◌&&◌ waits.left left) (λ k low. searching.none_yet terms lookups k low (omega arith))
          ∙ finds.pair terms lookups

      pub searching_found : {pair : Found} → r ≡ Some pair → FindsDue n heads inputs waiting w (Some pair)
      unfolding pair_of
      searching_found is =
          record {
            pair = λ terms lookups.
                due_searched terms (table_of n w) n lookups.count
                ∙ first_skips (left_for terms (table_of n w)) n 0 j (omega arith) (λ k above short low. searching.none_yet terms lookups k short low)
                ∙ first_found _ n j _ below (left_is terms lookups ∙ ap pair_of is);
            below = subst (PairBelow n) is finds.below;
            serving = served;
          }

      -- This one has no pair due: none has to wait for it any more.
      pub searching_on : ((pair : Found) → r ≡ Some pair → ⊥) → {waiting' : List ℕ} → RightPassed j waiting waiting' → {rights : ℕ} → OpenWaiting RIGHTS waiting₀ w.sets rights → {j' : ℕ} → Next rights (j + 1) j' → Searching n heads inputs waiting₀ w waiting' j'
      searching_on none_found {waiting'} passed rights-open next =
          let fewer : (k : ℕ) → holds (get_or waiting' RIGHTS 0) k ≡ true → holds (get_or waiting₀ RIGHTS 0) k ≡ true =
          λ k inside. searching.fewer k ((and-eq-true_iff (not (eqb k j)) (holds (get_or waiting RIGHTS 0) k)).0 (sym (passed.rights k) ∙ inside)).1
          in
          let none_here : (terms : List Term) → Lookups terms n heads inputs → left_for terms (table_of n w) j ≡ none = λ terms lookups. left_is terms lookups ∙ no_pair r none_found in
          let later : (terms : List Term) → Lookups terms n heads inputs → Watched waiting' terms n (table_of n w) w.sets =
          λ terms lookups. watched_passed (searching.watched terms lookups) j asked.serving.rows.few passed (none_here terms lookups)
          in
          record {
            same_length = passed.same_length ∙ searching.same_length;
            fewer = fewer;
            watched = later;
            none_yet = λ terms lookups.
                rights_passed (later terms lookups) asked.asleep (j + 1) _ (idle rights-open fewer next)
                (λ k low. last_or_before {P = λ k. k < n → left_for terms (table_of n w) k ≡ none} j (λ inside. none_here terms lookups) (searching.none_yet terms lookups) k (omega arith) (omega arith));
          }
