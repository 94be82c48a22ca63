-- When a pair that is due waits or has a pending side: after closing, after a step that wakes the users of the rows it changes, and at
-- the start.
-- Main results: `closed_sleeps`, `pending_awake`, `all_awake`, `stirred_finds`, `linked_kept`. Assume nothing.
use mathlib.Core.Path.{◌≡◌, refl, sym, ap, ap₂, ◌∙◌}
use mathlib.Core.Logic.{◌⊎◌, inl, inr}
use mathlib.Core.Bool.{Bool, true, false, not, ◌&&◌, false≢true, and-eq-true_iff}
use mathlib.Core.List.{List, []}
use mathlib.Core.Option.{none}
use Prim.Native.Nat.{ℕ, ◌+◌, ◌*◌, ◌<◌, ◌≤◌}
use native.Mathlib.Decide.{ℕ_discrete}
use native.Mathlib.Omega.{arith}
use lib.ListN.{length, get_or}
use lib.IntN.{ℤ}
use borrow.Author.Tests.{not-true}
use Rattle.set_members.specs.Sets.{holds}
use Rattle.rules_problem.specs.declared.Term.{Term}
use Rattle.rules_problem.specs.Lookup.{alike, kind_at}
use Rattle.rules_run.specs.Row.{Table, COLUMNS, same_to, same_row}
use Rattle.rules_run.specs.Close.{due}
use Rattle.laws_invariant.proofs.Due.{none_due}
use Rattle.run_table.specs.Held.{row_at, table_at}
use Rattle.run_table.specs.Sets.{users_of, pending_of, open_of, Linked, Stirred, Shut, Looked, Finds, Watched}
use Rattle.run_table.proofs.Linked.{linked_same}
use Rattle.run_table.specs.Notes.{Lookups, InputsBelow}
use Rattle.run_equal_rows.proofs.Equal.{same_rows}
use Rattle.run_due_pair.specs.Found.{same_input, same_inputs}
use Rattle.run_due_pair.proofs.Heads.{no_call, due_alike, alike_due, due_heads}

-- Where no pair is due, nothing has to wait.
pub closed_sleeps : {waiting : List ℕ} {terms : List Term} {n : ℕ} {table : Table} {sets : List ℕ} → length terms ≡ n → due terms table ≡ none → Watched waiting terms n table sets → Watched [] terms n table sets
closed_sleeps {terms = terms} {table = table} count closed watched =
    record { found = λ i j before below is left right. absurd (false≢true (sym (none_due terms table closed i j before (omega arith)) ∙ is)); others = watched.others }

-- Where every lookup is pending, both sides of a pair are.
pub pending_awake : {terms : List Term} {n : ℕ} {table : Table} {sets : List ℕ} → n ≤ 64 → ((k : ℕ) → k < 64 → holds (pending_of sets) k ≡ true) → ((j : ℕ) → j < n → holds (open_of sets) j ≡ false → Shut terms table j) → Watched [] terms n table sets
pending_awake small all others = record { found = λ i j before below is left right. inr (inl (all i (omega arith))); others = others }

-- At the start every lookup is open too.
pub all_awake : {terms : List Term} {n : ℕ} (table : Table) {heads inputs sets : List ℕ} → Lookups terms n heads inputs → n ≤ 64 → ((k : ℕ) → k < 64 → holds (pending_of sets) k ≡ true) → ((j : ℕ) → j < n → (get_or heads j 0 ≡ 0 → ⊥) → holds (open_of sets) j ≡ true) → Watched [] terms n table sets
all_awake {terms} {n} table {heads} {inputs} {sets} lookups small pending opened =
    pending_awake small pending (λ j below out. inl (no_call (kind_at terms j) (sym (lookups.calls.head j below) ∙ by j below out (ℕ_discrete (get_or heads j 0) 0))))
  where
    by : (j : ℕ) → j < n → holds (open_of sets) j ≡ false → Dec (get_or heads j 0 ≡ 0) → get_or heads j 0 ≡ 0
    by j below out (yes nothing) = nothing
    by j below out (no lookup) = absurd (false≢true (sym out ∙ opened j below lookup))

-- The links are those of the places 64 to 191.
pub linked_kept : {n : ℕ} {heads inputs sets₀ sets : List ℕ} → n ≤ 64 → InputsBelow n inputs → ((k : ℕ) → 64 ≤ k → k < 192 → get_or sets k 0 ≡ get_or sets₀ k 0) → Linked n heads inputs sets₀ → Linked n heads inputs sets
linked_kept few inputs_below = linked_same few (λ j k below place. omega (arith, inputs_below.below j k below place))

module _ {terms : List Term} {n : ℕ} {heads inputs : List ℕ} {nums₀ dens₀ nums dens : List ℤ} {sets₀ sets : List ℕ}
    (lookups : Lookups terms n heads inputs) (inputs_below : InputsBelow n inputs) (linked : Linked n heads inputs sets₀)
    (stirred : Stirred n nums₀ dens₀ nums dens sets₀ sets) where
  -- An input row of a lookup that is not pending is as it was.
  input_stays : (j k : ℕ) → j < n → k < 3 → (get_or heads j 0 ≡ 0 → ⊥) → holds (pending_of sets) j ≡ false → row_at nums dens (65 * get_or inputs (3 * j + k) 0) ≡ row_at nums₀ dens₀ (65 * get_or inputs (3 * j + k) 0)
  input_stays j k below place lookup asleep = by (stirred.woken (get_or inputs (3 * j + k) 0) (inputs_below.below j k below place))
    where
      by : (row_at nums dens (65 * get_or inputs (3 * j + k) 0) ≡ row_at nums₀ dens₀ (65 * get_or inputs (3 * j + k) 0)) ⊎ ((l : ℕ) → holds (users_of sets₀ (get_or inputs (3 * j + k) 0)) l ≡ true → holds (pending_of sets) l ≡ true) → row_at nums dens (65 * get_or inputs (3 * j + k) 0) ≡ row_at nums₀ dens₀ (65 * get_or inputs (3 * j + k) 0)
      by (inl same) = same
      by (inr woken) = absurd (false≢true (sym asleep ∙ woken j (linked.users j k below place lookup)))

  module _ (i j : ℕ) (p : i < n) (q : j < n) (left : get_or heads i 0 ≡ 0 → ⊥) (right : get_or heads j 0 ≡ 0 → ⊥)
      (left-asleep : holds (pending_of sets) i ≡ false) (right-asleep : holds (pending_of sets) j ≡ false) where
    input_same : (k : ℕ) → k < 3 → same_input (table_at n nums dens) inputs i j k ≡ same_input (table_at n nums₀ dens₀) inputs i j k
    unfolding same_input
    input_same k place =
        let t = get_or inputs (3 * i + k) 0 in
        let u = get_or inputs (3 * j + k) 0 in
        let t-below = inputs_below.below i k p place in
        let u-below = inputs_below.below j k q place in
        same_rows n nums dens t u t-below u-below
        ∙ ap₂ (same_to COLUMNS) (input_stays i k p place left left-asleep) (input_stays j k q place right right-asleep)
        ∙ sym (same_rows n nums₀ dens₀ t u t-below u-below)

    inputs_same : same_inputs (table_at n nums dens) inputs i j ≡ same_inputs (table_at n nums₀ dens₀) inputs i j
    unfolding same_inputs
    inputs_same = rw (input_same 0 (omega arith), input_same 1 (omega arith), input_same 2 (omega arith))

  module _ (waiting : List ℕ) (stay : (t u : ℕ) → same_row (table_at n nums₀ dens₀) t u ≡ true → same_row (table_at n nums dens) t u ≡ true) (finds : Finds waiting terms n (table_at n nums₀ dens₀) sets₀) where
    -- a pair that was due waits still, or has a side that is pending still
    remembered : (i j : ℕ) → Looked waiting sets₀ i j → Looked waiting sets i j
    remembered i j (inl waits) = inl waits
    remembered i j (inr (inl was)) = inr (inl (stirred.remembered i was))
    remembered i j (inr (inr was)) = inr (inr (stirred.remembered j was))

    -- the pair was due before unless its own rows were equal, and then they still are
    own : (i j : ℕ) → i < j → j < n → holds (open_of sets₀) i ≡ true → holds (open_of sets₀) j ≡ true → alike (kind_at terms i) (kind_at terms j) ≡ true → same_inputs (table_at n nums₀ dens₀) inputs i j ≡ true → same_row (table_at n nums dens) i j ≡ false → (b : Bool) → same_row (table_at n nums₀ dens₀) i j ≡ b → Looked waiting sets i j
    own i j before below i-open j-open similar inputs_equal unequal true was = absurd (false≢true (sym unequal ∙ stay i j was))
    own i j before below i-open j-open similar inputs_equal unequal false was =
        remembered i j (finds i j before below (due_alike terms n heads inputs lookups (table_at n nums₀ dens₀) i j (omega arith) below similar ∙ ap₂ (λ a b. a && not b) inputs_equal was) i-open j-open)

    -- A step that wakes the users of each row that it changes, and leaves equal rows equal, makes no other pair due.
    pub stirred_finds : Finds waiting terms n (table_at n nums dens) sets
    unfolding open_of
    stirred_finds i j before below is i-open j-open = by (holds (pending_of sets) i) refl (holds (pending_of sets) j) refl
      where
        same_open : get_or sets 193 0 ≡ get_or sets₀ 193 0
        same_open = stirred.links 193 (omega arith) (λ e. omega arith)

        by : (a : Bool) → holds (pending_of sets) i ≡ a → (b : Bool) → holds (pending_of sets) j ≡ b → Looked waiting sets i j
        by true left b right = inr (inl left)
        by false left true right = inr (inr right)
        by false left false right =
            let table = table_at n nums dens in
            let first : i < n = omega arith in
            let similar = alike_due terms n heads inputs lookups table i j first below is in
            let one = due_heads terms n heads inputs lookups table i j first below is in
            let parts = (and-eq-true_iff (same_inputs table inputs i j) (not (same_row table i j))).0 (sym (due_alike terms n heads inputs lookups table i j first below similar) ∙ is) in
            let same = inputs_same i j first below (λ none. one.0 (sym one.1 ∙ none)) one.0 left right in
            own i j before below (ap (λ s. holds s i) (sym same_open) ∙ i-open) (ap (λ s. holds s j) (sym same_open) ∙ j-open) similar (sym same ∙ parts.0) (not-true (same_row table i j) parts.1) (same_row (table_at n nums₀ dens₀) i j) refl
