-- Lookups as numbers: heads tell functions apart, and three places hold the inputs.
-- Main results: `no_call`, `no_lookup`, `one_head`, `inputs_below`, `due_alike`, `due_unlike`, `alike_due`, `due_heads`. Assume nothing.
use mathlib.Core.Path.{◌≡◌, refl, sym, ap, ap₂, ◌∙◌, subst}
use mathlib.Core.Bool.{Bool, true, false, not, ◌&&◌, false≢true, and-eq-true_iff, and-true}
use mathlib.Core.List.{List, [], ◌∷◌}
use mathlib.Core.Option.{Option, some, none}
use Prim.Native.Nat.{ℕ, zero, suc, ◌+◌, ◌*◌, ◌<◌, ◌≤◌}
use native.Mathlib.Omega.{arith}
use lib.ListN.{length, get_or}
use lib.Dec.{eqb}
use borrow.Author.Tests.{eqb-true, eq-eqb, ne_eqb}
use Rattle.rules_problem.specs.declared.Kind.{Kind}
use Rattle.rules_problem.specs.declared.Kind.TheVariants.{Variable, Constant, Gain, Sum, Difference, Lookup1, Lookup2, Lookup3}
use Rattle.rules_problem.specs.declared.Term.{Term}
use Rattle.rules_problem.specs.Lookup.{Call, call_of, inputs_of, same_function, alike, kind_at}
use Rattle.rules_run.specs.Row.{Table, same_row}
use Rattle.rules_run.specs.Close.{same_rows, is_due}
use Rattle.run_table.specs.Notes.{head_of, input_of, LookupsNoted, symbol_of, Lookups, InputsBelow}
use Rattle.run_equal_rows.proofs.Equal.{row_itself}
use Rattle.run_due_pair.specs.Found.{same_input, same_inputs}

-- of what `call_of` gives: the head, the symbol, the inputs
abbrev head_by : Option Call → ℕ
head_by f = elim f [ none ↦ 0 | some call ↦ 256 * length call.inputs + call.symbol ]

abbrev symbol_by : Option Call → ℕ
symbol_by f = elim f [ none ↦ 0 | some call ↦ call.symbol ]

abbrev inputs_by : Option Call → List ℕ
inputs_by f = elim f [ none ↦ [] | some call ↦ call.inputs ]

-- a lookup has one to three inputs
abbrev Sized : Option Call → Type 0
Sized none = Unit {0}
Sized (some call) = (0 < length call.inputs) × (length call.inputs ≤ 3)

sized : (k : Kind) → Sized (call_of k)
unfolding call_of
sized (Variable symbol) = tt
sized (Constant value) = tt
sized (Gain factor input) = tt
sized (Sum left right) = tt
sized (Difference left right) = tt
sized (Lookup1 symbol input) = omega arith
sized (Lookup2 symbol first second) = omega arith
sized (Lookup3 symbol first second third) = omega arith

same_truth : (a b : Bool) → (a ≡ true → b ≡ true) → (b ≡ true → a ≡ true) → a ≡ b
same_truth true b p q = sym (p refl)
same_truth false true p q = q refl
same_truth false false p q = refl

head_none : (f g : Option Call) → Sized f → head_by f ≡ 0 → same_function f g ≡ false
unfolding same_function
head_none none g s e = refl
head_none (some f) g s e = absurd (omega arith)

head_one : (f g : Option Call) → Sized f → symbol_by f < 256 → symbol_by g < 256 → (head_by f ≡ 0 → ⊥) → eqb (head_by f) (head_by g) ≡ same_function f g
unfolding same_function
head_one none g s p q h = absurd (h refl)
head_one (some f) none s p q h = ne_eqb (head_by (some f)) 0 h
head_one (some f) (some g) s p q h = same_truth (eqb (head_by (some f)) (head_by (some g))) _ there back
  where
    there : eqb (head_by (some f)) (head_by (some g)) ≡ true → eqb f.symbol g.symbol && eqb (length f.inputs) (length g.inputs) ≡ true
    there e =
        let same = eqb-true (head_by (some f)) (head_by (some g)) e in
        (and-eq-true_iff _ _).1 (eq-eqb f.symbol g.symbol (omega arith), eq-eqb (length f.inputs) (length g.inputs) (omega arith))

    back : eqb f.symbol g.symbol && eqb (length f.inputs) (length g.inputs) ≡ true → eqb (head_by (some f)) (head_by (some g)) ≡ true
    back e =
        let both = (and-eq-true_iff _ _).0 e in
        let symbols = eqb-true f.symbol g.symbol both.0 in
        let lengths = eqb-true (length f.inputs) (length g.inputs) both.1 in
        eq-eqb (head_by (some f)) (head_by (some g)) (omega arith)

-- A term with the head 0 is no lookup.
pub no_call : (k : Kind) → head_of k ≡ 0 → call_of k ≡ none
unfolding head_of
no_call k = by (call_of k) (sized k)
  where
    by : (f : Option Call) → Sized f → head_by f ≡ 0 → f ≡ none
    by none s e = refl
    by (some f) s e = absurd (omega arith)

-- So it is alike no other.
pub no_lookup : (k l : Kind) → head_of k ≡ 0 → alike k l ≡ false
unfolding head_of alike
no_lookup k l = head_none (call_of k) (call_of l) (sized k)

-- A lookup is alike the terms with its head.
pub one_head : (k l : Kind) → symbol_of k < 256 → symbol_of l < 256 → (head_of k ≡ 0 → ⊥) → eqb (head_of k) (head_of l) ≡ alike k l
unfolding head_of symbol_of alike
one_head k l = head_one (call_of k) (call_of l) (sized k)

-- Lookups of one function have as many inputs, at most three.
alike_sized : (f g : Option Call) → Sized f → same_function f g ≡ true → (length (inputs_by f) ≡ length (inputs_by g)) × (length (inputs_by f) ≤ 3)
unfolding same_function
alike_sized none g s e = absurd (false≢true e)
alike_sized (some f) none s e = absurd (false≢true e)
alike_sized (some f) (some g) s e = (eqb-true (length f.inputs) (length g.inputs) ((and-eq-true_iff (eqb f.symbol g.symbol) _).0 e).1, s.1)

-- `count` places of two lists of terms, from place `from`, where each list has 0 beyond its end
abbrev places : Table → (count from : ℕ) → (ts us : List ℕ) → Bool
places table zero from ts us = true
places table (suc count) from ts us = same_row table (get_or ts from 0) (get_or us from 0) && places table count (suc from) ts us

beyond : (table : Table) (count from : ℕ) → places table count from [] [] ≡ true
beyond table zero from = refl
beyond table (suc count) from = ap₂ ◌&&◌ (row_itself table 0) (beyond table count (suc from))

later : (table : Table) (count from : ℕ) (t u : ℕ) (ts us : List ℕ) → places table count (suc from) (t ∷ ts) (u ∷ us) ≡ places table count from ts us
later table zero from t u ts us = refl
later table (suc count) from t u ts us = ap (λ b. same_row table (get_or ts from 0) (get_or us from 0) && b) (later table count (suc from) t u ts us)

rows_places : (table : Table) (count : ℕ) (ts us : List ℕ) → length ts ≡ length us → length ts ≤ count → same_rows table ts us ≡ places table count 0 ts us
unfolding same_rows
rows_places table count [] [] e h = sym (beyond table count 0)
rows_places table count [] (u ∷ us) e h = absurd (omega arith)
rows_places table count (t ∷ ts) [] e h = absurd (omega arith)
rows_places table zero (t ∷ ts) (u ∷ us) e h = absurd (omega arith)
rows_places table (suc count) (t ∷ ts) (u ∷ us) e h =
    ap (λ b. same_row table t u && b) (rows_places table count ts us (omega arith) (omega arith) ∙ sym (later table count 0 t u ts us))

-- Inputs that are terms are so in the list.
pub inputs_below : {terms : List Term} {n : ℕ} {heads inputs : List ℕ} → LookupsNoted terms n heads inputs → ((t i : ℕ) → t < n → i < 3 → input_of (kind_at terms t) i < n) → InputsBelow n inputs
inputs_below {n = n} calls own = record { below = λ t i p q. subst (λ x. x < n) (sym (calls.input t i p q)) (own t i p q) }

module _ (terms : List Term) (n : ℕ) (heads inputs : List ℕ) (lookups : Lookups terms n heads inputs) (table : Table) (i j : ℕ) (p : i < n) (q : j < n) where
  input_is : (k : ℕ) → k < 3 → same_input table inputs i j k ≡ same_row table (get_or (inputs_of (kind_at terms i)) k 0) (get_or (inputs_of (kind_at terms j)) k 0)
  unfolding same_input input_of
  input_is k below = ap₂ (same_row table) (lookups.calls.input i k p below) (lookups.calls.input j k q below)

  -- Of lookups of one function, three places tell whether the pair is due.
  pub due_alike : alike (kind_at terms i) (kind_at terms j) ≡ true → is_due terms table i j ≡ same_inputs table inputs i j && not (same_row table i j)
  unfolding is_due alike inputs_of same_inputs
  due_alike e =
      let size = alike_sized (call_of (kind_at terms i)) (call_of (kind_at terms j)) (sized (kind_at terms i)) e in
      let three = rows_places table 3 (inputs_of (kind_at terms i)) (inputs_of (kind_at terms j)) size.0 size.1 in
      rw (e, three, input_is 0 (omega arith), input_is 1 (omega arith), input_is 2 (omega arith), and-true)

  -- No other pair is.
  pub due_unlike : alike (kind_at terms i) (kind_at terms j) ≡ false → is_due terms table i j ≡ false
  unfolding is_due
  due_unlike e = rw e

  pub alike_due : is_due terms table i j ≡ true → alike (kind_at terms i) (kind_at terms j) ≡ true
  alike_due is = by (alike (kind_at terms i) (kind_at terms j)) refl
    where
      by : (b : Bool) → alike (kind_at terms i) (kind_at terms j) ≡ b → b ≡ true
      by true similar = refl
      by false other = absurd (false≢true (sym (due_unlike other) ∙ is))

  -- A pair that is due has one head, and it is not 0.
  pub due_heads : is_due terms table i j ≡ true → (get_or heads j 0 ≡ 0 → ⊥) × (get_or heads i 0 ≡ get_or heads j 0)
  due_heads is =
      let left = kind_at terms i in
      let right = kind_at terms j in
      let lookup : head_of left ≡ 0 → ⊥ = λ none. false≢true (sym (no_lookup left right none) ∙ alike_due is) in
      let one : head_of left ≡ head_of right = eqb-true (head_of left) (head_of right) (one_head left right (lookups.symbols i p) (lookups.symbols j q) lookup ∙ alike_due is) in
      (λ none. lookup (one ∙ sym (lookups.calls.head j q) ∙ none), lookups.calls.head i p ∙ one ∙ sym (lookups.calls.head j q))
