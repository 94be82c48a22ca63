-- Congruent lookups: a pair due with the later of two twins has one that comes first, with the earlier.
-- Main results: `due_parts`, `rows_kept`, `twin_kept`, `shut_kept`, `twin_left`, `twin_right`, `due_calls`. Assume nothing.
use mathlib.Core.Path.{◌≡◌, refl, sym, ap, ◌∙◌}
use mathlib.Core.Logic.{inl, inr}
use mathlib.Core.Bool.{Bool, true, false, false≢true, and-eq-true_iff}
use mathlib.Core.List.{List, [], ◌∷◌}
use mathlib.Core.Option.{Option, some, none}
use Prim.Native.Nat.{ℕ, ◌<◌}
use native.Mathlib.Decide.{dec_lt}
use native.Mathlib.Omega.{arith}
use lib.ListN.{length}
use borrow.Author.Tests.{eqb-true, eq-eqb, not-true}
use Rattle.rules_problem.specs.declared.Term.{Term}
use Rattle.rules_problem.specs.Lookup.{Call, call_of, inputs_of, same_function, alike, kind_at}
use Rattle.rules_run.specs.Row.{Table, same_row}
use Rattle.rules_run.specs.Close.{same_rows, is_due}
use Rattle.laws_invariant.proofs.Rows.{same_row_equal}
use Rattle.run_table.specs.Sets.{Twin, Shut}

-- Lookups of one function: both ways, and one after another.
function_back : (f g : Option Call) → same_function f g ≡ true → same_function g f ≡ true
unfolding same_function
function_back none g e = absurd (false≢true e)
function_back (some f) none e = absurd (false≢true e)
function_back (some f) (some g) e =
    let both = (and-eq-true_iff _ _).0 e in
    (and-eq-true_iff _ _).1 (eq-eqb g.symbol f.symbol (sym (eqb-true f.symbol g.symbol both.0)), eq-eqb (length g.inputs) (length f.inputs) (sym (eqb-true (length f.inputs) (length g.inputs) both.1)))

function_then : (f g h : Option Call) → same_function f g ≡ true → same_function g h ≡ true → same_function f h ≡ true
unfolding same_function
function_then none g h e d = absurd (false≢true e)
function_then (some f) none h e d = absurd (false≢true e)
function_then (some f) (some g) none e d = absurd (false≢true d)
function_then (some f) (some g) (some h) e d =
    let first = (and-eq-true_iff _ _).0 e in
    let second = (and-eq-true_iff _ _).0 d in
    (and-eq-true_iff _ _).1 (
      eq-eqb f.symbol h.symbol (eqb-true f.symbol g.symbol first.0 ∙ eqb-true g.symbol h.symbol second.0),
      eq-eqb (length f.inputs) (length h.inputs) (eqb-true (length f.inputs) (length g.inputs) first.1 ∙ eqb-true (length g.inputs) (length h.inputs) second.1),
    )

-- Equal rows, and equal rows place by place: the same.
module _ (table : Table) where
  row_back : (t u : ℕ) → same_row table t u ≡ true → same_row table u t ≡ true
  row_back t u same = (same_row_equal table u t).1 (λ c inside. sym ((same_row_equal table t u).0 same c inside))

  row_then : (t u v : ℕ) → same_row table t u ≡ true → same_row table u v ≡ true → same_row table t v ≡ true
  row_then t u v first second = (same_row_equal table t v).1 (λ c inside. (same_row_equal table t u).0 first c inside ∙ (same_row_equal table u v).0 second c inside)

  rows_back : (ts us : List ℕ) → same_rows table ts us ≡ true → same_rows table us ts ≡ true
  unfolding same_rows
  rows_back [] [] e = refl
  rows_back [] (u ∷ us) e = absurd (false≢true e)
  rows_back (t ∷ ts) [] e = absurd (false≢true e)
  rows_back (t ∷ ts) (u ∷ us) e = let both = (and-eq-true_iff _ _).0 e in (and-eq-true_iff _ _).1 (row_back t u both.0, rows_back ts us both.1)

  rows_then : (ts us vs : List ℕ) → same_rows table ts us ≡ true → same_rows table us vs ≡ true → same_rows table ts vs ≡ true
  unfolding same_rows
  rows_then [] [] vs e d = d
  rows_then [] (u ∷ us) vs e d = absurd (false≢true e)
  rows_then (t ∷ ts) [] vs e d = absurd (false≢true e)
  rows_then (t ∷ ts) (u ∷ us) [] e d = absurd (false≢true d)
  rows_then (t ∷ ts) (u ∷ us) (v ∷ vs) e d =
      let first = (and-eq-true_iff _ _).0 e in
      let second = (and-eq-true_iff _ _).0 d in
      (and-eq-true_iff _ _).1 (row_then t u v first.0 second.0, rows_then ts us vs first.1 second.1)

  -- Rows that equal a third are not told apart by it.
  row_apart : (t u v : ℕ) → same_row table t u ≡ true → same_row table u v ≡ false → same_row table t v ≡ false
  row_apart t u v same other = by (same_row table t v) refl
    where
      by : (b : Bool) → same_row table t v ≡ b → b ≡ false
      by true equal = absurd (false≢true (sym other ∙ row_then u t v (row_back t u same) equal))
      by false unequal = refl

  apart_back : (t u : ℕ) → same_row table t u ≡ false → same_row table u t ≡ false
  apart_back t u other = by (same_row table u t) refl
    where
      by : (b : Bool) → same_row table u t ≡ b → b ≡ false
      by true equal = absurd (false≢true (sym other ∙ row_back u t equal))
      by false unequal = refl

-- Equal rows place by place stay so, where equal rows do.
pub rows_kept : (table after : Table) → ((t u : ℕ) → same_row table t u ≡ true → same_row after t u ≡ true) → (ts us : List ℕ) → same_rows table ts us ≡ true → same_rows after ts us ≡ true
unfolding same_rows
rows_kept table after stay [] [] e = refl
rows_kept table after stay [] (u ∷ us) e = absurd (false≢true e)
rows_kept table after stay (t ∷ ts) [] e = absurd (false≢true e)
rows_kept table after stay (t ∷ ts) (u ∷ us) e =
    let both = (and-eq-true_iff _ _).0 e in
    (and-eq-true_iff _ _).1 (stay t u both.0, rows_kept table after stay ts us both.1)

-- Twins stay twins, where equal rows stay equal.
pub twin_kept : {terms : List Term} {table after : Table} → ((t u : ℕ) → same_row table t u ≡ true → same_row after t u ≡ true) → {i j : ℕ} → Twin terms table i j → Twin terms after i j
twin_kept {table = table} {after} stay twin =
    record { order = twin.order; similar = twin.similar; inputs = rows_kept table after stay _ _ twin.inputs; own = stay _ _ twin.own }

pub shut_kept : {terms : List Term} {table after : Table} → ((t u : ℕ) → same_row table t u ≡ true → same_row after t u ≡ true) → {j : ℕ} → Shut terms table j → Shut terms after j
shut_kept stay (inl no_lookup) = inl no_lookup
shut_kept stay (inr (i, twin)) = inr (i, twin_kept stay twin)

-- Nothing is alike what is no lookup.
none_alike : (f g : Option Call) → same_function f g ≡ true → (f ≡ none → ⊥) × (g ≡ none → ⊥)
unfolding same_function
none_alike none g e = absurd (false≢true e)
none_alike (some f) none e = absurd (false≢true e)
none_alike (some f) (some g) e = (some_not_none, some_not_none)
  where
    some_not_none : {A : Type 0} {a : A} → ◌≡◌ {A = Option A} (some a) none → ⊥
    some_not_none e = let no_way : ◌≡◌ {A = ℕ} 0 1 = cc in absurd (omega arith)

module _ (terms : List Term) (table : Table) where
  -- what makes a pair due
  pub due_parts : (i j : ℕ) → is_due terms table i j ≡ true → (alike (kind_at terms i) (kind_at terms j) ≡ true) × (same_rows table (inputs_of (kind_at terms i)) (inputs_of (kind_at terms j)) ≡ true) × (same_row table i j ≡ false)
  unfolding is_due
  due_parts i j is =
      let outer = (and-eq-true_iff _ _).0 is in
      let inner = (and-eq-true_iff _ _).0 outer.0 in
      (inner.0, inner.1, not-true (same_row table i j) outer.1)

  -- Both sides of a pair due are lookups.
  pub due_calls : (i j : ℕ) → is_due terms table i j ≡ true → (call_of (kind_at terms i) ≡ none → ⊥) × (call_of (kind_at terms j) ≡ none → ⊥)
  unfolding alike
  due_calls i j is = none_alike (call_of (kind_at terms i)) (call_of (kind_at terms j)) (due_parts i j is).0

  due_made : (i j : ℕ) → alike (kind_at terms i) (kind_at terms j) ≡ true → same_rows table (inputs_of (kind_at terms i)) (inputs_of (kind_at terms j)) ≡ true → same_row table i j ≡ false → is_due terms table i j ≡ true
  unfolding is_due
  due_made i j similar inputs own = rw (similar, inputs, own)

  alike_back : (i j : ℕ) → alike (kind_at terms i) (kind_at terms j) ≡ true → alike (kind_at terms j) (kind_at terms i) ≡ true
  unfolding alike
  alike_back i j = function_back (call_of (kind_at terms i)) (call_of (kind_at terms j))

  alike_then : (i j k : ℕ) → alike (kind_at terms i) (kind_at terms j) ≡ true → alike (kind_at terms j) (kind_at terms k) ≡ true → alike (kind_at terms i) (kind_at terms k) ≡ true
  unfolding alike
  alike_then i j k = function_then (call_of (kind_at terms i)) (call_of (kind_at terms j)) (call_of (kind_at terms k))

  -- A pair due whose left side has a twin before it: the twin makes a pair due too.
  pub twin_left : {i j : ℕ} (k : ℕ) → Twin terms table i j → is_due terms table j k ≡ true → is_due terms table i k ≡ true
  twin_left {i} {j} k twin is =
      let parts = due_parts j k is in
      due_made i k (alike_then i j k twin.similar parts.0) (rows_then table _ _ _ twin.inputs parts.1) (row_apart table i j k twin.own parts.2)

  -- A pair due whose right side has a twin before it: the twin and the left side make a pair due, before the right side.
  pub twin_right : {i j : ℕ} (k : ℕ) → Twin terms table i j → k < j → is_due terms table k j ≡ true → (a : ℕ) × (b : ℕ) × (a < b) × (b < j) × (is_due terms table a b ≡ true)
  twin_right {i} {j} k twin before is = by (dec_lt k i) (dec_lt i k)
    where
      parts : (alike (kind_at terms k) (kind_at terms j) ≡ true) × (same_rows table (inputs_of (kind_at terms k)) (inputs_of (kind_at terms j)) ≡ true) × (same_row table k j ≡ false)
      parts = due_parts k j is

      -- the own rows of the twin and of k differ
      apart : same_row table i k ≡ false
      apart = row_apart table i j k twin.own (apart_back table k j parts.2)

      twin_is : is_due terms table i k ≡ true
      twin_is = due_made i k (alike_then i j k twin.similar (alike_back k j parts.0)) (rows_then table _ _ _ twin.inputs (rows_back table _ _ parts.1)) apart

      back_is : is_due terms table k i ≡ true
      back_is = due_made k i (alike_then k j i parts.0 (alike_back i j twin.similar)) (rows_then table _ _ _ parts.1 (rows_back table _ _ twin.inputs)) (apart_back table i k apart)

      by : Dec (k < i) → Dec (i < k) → (a : ℕ) × (b : ℕ) × (a < b) × (b < j) × (is_due terms table a b ≡ true)
      by (yes left) _ = (k, i, left, twin.order, back_is)
      by (no _) (yes right) = (i, k, right, before, twin_is)
      by (no above) (no below) = let same : k ≡ i = omega arith in absurd (false≢true (sym parts.2 ∙ ap (λ x. same_row table x j) same ∙ twin.own))
