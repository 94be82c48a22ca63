-- The lookups as numbers: one more term is noted.
-- Main results: `notable_below`, `numbers_noted`, `heads_length`,
-- `inputs_length`, `calls_noted`, `notes_more`, `inputs_noted`, `linked_noted`, `opened_noted`. Assume nothing.
use mathlib.Core.Logic.{◌⊎◌, inl, inr, ◌≢◌}
use mathlib.Core.Path.{◌≡◌, refl, sym, ap, ◌∙◌}
use mathlib.Core.List.{List, [], ◌∷◌}
use Prim.Native.Nat.{ℕ, zero, suc, ◌+◌, ◌-◌, ◌*◌, ◌≤◌, ◌<◌}
use native.Mathlib.Nat.{add-zero}
use native.Mathlib.Decide.{ℕ_discrete, dec_lt}
use native.Mathlib.Omega.{arith}
use lib.ListN.{length, get_or, set, length-set}
use lib.Seq.{get_or-set_same, get_or-set_other}
use Rattle.rules_problem.specs.declared.Kind.{Kind}
use Rattle.rules_problem.specs.declared.Kind.TheVariants.{Variable, Constant, Gain, Sum, Difference, Lookup1, Lookup2, Lookup3}
use Rattle.rules_problem.specs.declared.Term.{Term}
use Rattle.rules_problem.specs.Lookup.{call_of, inputs_of, kind_at}
use Rattle.run_table.specs.Notes.{head_of, input_of, LookupsNoted, NotesKept}
use Rattle.run_table.specs.Sets.{Linked}
use Rattle.run_build_row.specs.Buildable.{InputsEarlier}
use Rattle.rules_run.specs.Row.{TERMS}
use Rattle.run_build.specs.declared.call.Numbers.{Numbers}
use Rattle.run_build.specs.Contract.{Numbered, Notable, CallNoted}
use Rattle.run_build.specs.Links.{InputsSmall, Opened}
use Rattle.run_build.proofs.Linking.{opened_same}
use Rattle.run_table.proofs.Linked.{linked_kept}

-- Inputs below a number are below any larger one.
below_more : {own more : ℕ} (kind : Kind) → own ≤ more → InputsEarlier own kind → InputsEarlier more kind
unfolding InputsEarlier
below_more (Variable symbol) h b = tt
below_more (Constant value) h b = tt
below_more (Gain factor input) h b = omega arith
below_more (Sum left right) h b = omega arith
below_more (Difference left right) h b = omega arith
below_more (Lookup1 symbol input) h b = omega arith
below_more (Lookup2 symbol first second) h b = omega arith
below_more (Lookup3 symbol first second third) h b = omega arith

-- They are stored.
pub notable_below : {kind : Kind} {t : ℕ} {heads inputs : List ℕ} → Notable kind t heads inputs → InputsEarlier TERMS kind
notable_below {kind} asked = let few = asked.few in below_more kind (omega arith) asked.below

pub numbers_noted : {kind : Kind} {t : ℕ} {heads inputs : List ℕ} {numbers : Numbers} → Numbered kind numbers → CallNoted kind t heads inputs (set heads t numbers.head) (set (set (set inputs (3 * t) numbers.first) (3 * t + 1) numbers.second) (3 * t + 2) numbers.third)
numbers_noted is = record { heads_are = rw is.head; inputs_are = rw (is.first, is.second, is.third) }

-- Three places stored to hold what was stored, the others what they held.
module _ (l : List ℕ) (k x y z : ℕ) where
  abbrev stored : List ℕ
  stored = set (set (set l k x) (k + 1) y) (k + 2) z

  stored_other : (j : ℕ) → (j < k) ⊎ (k + 3 ≤ j) → get_or stored j 0 ≡ get_or l j 0
  stored_other j (inl before) =
      get_or-set_other (set (set l k x) (k + 1) y) (k + 2) j z 0 (λ e. omega arith) ∙ get_or-set_other (set l k x) (k + 1) j y 0 (λ e. omega arith) ∙ get_or-set_other l k j x 0 (λ e. omega arith)
  stored_other j (inr after) =
      get_or-set_other (set (set l k x) (k + 1) y) (k + 2) j z 0 (λ e. omega arith) ∙ get_or-set_other (set l k x) (k + 1) j y 0 (λ e. omega arith) ∙ get_or-set_other l k j x 0 (λ e. omega arith)

  module _ (there : k + 2 < length l) where
    stored_first : get_or stored k 0 ≡ x
    stored_first =
        get_or-set_other (set (set l k x) (k + 1) y) (k + 2) k z 0 (λ e. omega arith) ∙ get_or-set_other (set l k x) (k + 1) k y 0 (λ e. omega arith) ∙ get_or-set_same l k x 0 (omega arith)

    stored_second : get_or stored (k + 1) 0 ≡ y
    stored_second =
        get_or-set_other (set (set l k x) (k + 1) y) (k + 2) (k + 1) z 0 (λ e. omega arith) ∙ get_or-set_same (set l k x) (k + 1) y 0 (simp length-set (omega arith))

    stored_third : get_or stored (k + 2) 0 ≡ z
    stored_third = get_or-set_same (set (set l k x) (k + 1) y) (k + 2) z 0 (simp length-set (omega arith))

-- The inputs of a term are numbers of terms; so is the 0 of a place without one.
cons_small : (x : ℕ) (rest : List ℕ) → x < TERMS → ((i : ℕ) → get_or rest i 0 < TERMS) → (i : ℕ) → get_or (x ∷ rest) i 0 < TERMS
cons_small x rest first others zero = first
cons_small x rest first others (suc i) = others i

none_small : (i : ℕ) → get_or {A = ℕ} [] i 0 < TERMS
none_small i = omega arith

input_small : (kind : Kind) → InputsEarlier TERMS kind → (i : ℕ) → input_of kind i < TERMS
unfolding InputsEarlier input_of inputs_of call_of
input_small (Variable symbol) b = none_small
input_small (Constant value) b = none_small
input_small (Gain factor input) b = none_small
input_small (Sum left right) b = none_small
input_small (Difference left right) b = none_small
input_small (Lookup1 symbol input) b = cons_small input [] b none_small
input_small (Lookup2 symbol first second) b = cons_small first (second ∷ []) b.0 (cons_small second [] b.1 none_small)
input_small (Lookup3 symbol first second third) b =
    cons_small first (second ∷ third ∷ []) b.0 (cons_small second (third ∷ []) b.1 (cons_small third [] b.2 none_small))

-- The call of term t is noted.
module _ {kind : Kind} {t : ℕ} {heads inputs heads' inputs' : List ℕ} (asked : Notable kind t heads inputs) (noted : CallNoted kind t heads inputs heads' inputs') where
  head_own : get_or heads' t 0 ≡ head_of kind
  head_own = ap (λ l. get_or l t 0) noted.heads_are ∙ get_or-set_same heads t (head_of kind) 0 (omega (arith, asked.few, asked.heads_size))

  head_other : (k : ℕ) → k ≢ t → get_or heads' k 0 ≡ get_or heads k 0
  head_other k other = ap (λ l. get_or l k 0) noted.heads_are ∙ get_or-set_other heads t k (head_of kind) 0 other

  input_own : (i : ℕ) → i < 3 → get_or inputs' (3 * t + i) 0 ≡ input_of kind i
  input_own i place = ap (λ l. get_or l (3 * t + i) 0) noted.inputs_are ∙ by i place
    where
      wide : 3 * t + 2 < length inputs
      wide = omega (arith, asked.few, asked.inputs_size)

      by : (i : ℕ) → i < 3 → get_or (stored inputs (3 * t) (input_of kind 0) (input_of kind 1) (input_of kind 2)) (3 * t + i) 0 ≡ input_of kind i
      by zero place = rw add-zero (stored_first inputs (3 * t) (input_of kind 0) (input_of kind 1) (input_of kind 2) wide)
      by (suc zero) place = stored_second inputs (3 * t) (input_of kind 0) (input_of kind 1) (input_of kind 2) wide
      by (suc (suc zero)) place = stored_third inputs (3 * t) (input_of kind 0) (input_of kind 1) (input_of kind 2) wide
      by (suc (suc (suc i))) place = absurd (omega arith)

  input_other : (k : ℕ) → (k < 3 * t) ⊎ (3 * t + 3 ≤ k) → get_or inputs' k 0 ≡ get_or inputs k 0
  input_other k out = ap (λ l. get_or l k 0) noted.inputs_are ∙ stored_other inputs (3 * t) (input_of kind 0) (input_of kind 1) (input_of kind 2) k out

  pub heads_length : length heads' ≡ length heads
  heads_length = ap length noted.heads_are ∙ length-set heads t (head_of kind)

  pub inputs_length : length inputs' ≡ length inputs
  inputs_length = ap length noted.inputs_are ∙ simp length-set

  -- The heads and inputs are those of one term more.
  pub calls_noted : (terms : List Term) → kind_at terms t ≡ kind → LookupsNoted terms t heads inputs → LookupsNoted terms (t + 1) heads' inputs'
  calls_noted terms is calls =
      record { head = λ s below. head_at s below (ℕ_discrete s t); input = λ s i below place. input_at s i below place (ℕ_discrete s t) }
    where
      head_at : (s : ℕ) → s < t + 1 → Dec (s ≡ t) → get_or heads' s 0 ≡ head_of (kind_at terms s)
      head_at s below (yes same) = rw same (head_own ∙ ap head_of (sym is))
      head_at s below (no other) = head_other s other ∙ calls.head s (omega arith)

      input_at : (s i : ℕ) → s < t + 1 → i < 3 → Dec (s ≡ t) → get_or inputs' (3 * s + i) 0 ≡ input_of (kind_at terms s) i
      input_at s i below place (yes same) = rw same (input_own i place ∙ ap (λ k. input_of k i) (sym is))
      input_at s i below place (no other) = input_other (3 * s + i) (inl (omega arith)) ∙ calls.input s i (omega arith) place

  -- No place behind the first n terms has changed.
  pub notes_more : {n : ℕ} {heads₀ inputs₀ : List ℕ} → t < n → NotesKept t heads₀ inputs₀ heads inputs → NotesKept n heads₀ inputs₀ heads' inputs'
  notes_more below kept =
      record {
        heads_length = heads_length ∙ kept.heads_length;
        inputs_length = inputs_length ∙ kept.inputs_length;
        heads_beyond = λ k far. head_other k (λ e. omega arith) ∙ kept.heads_beyond k (omega arith);
        inputs_beyond = λ k far. input_other k (inr (omega arith)) ∙ kept.inputs_beyond k (omega arith);
      }

  -- Its inputs are small as those before it, what was linked stays so, and the lookups before it stay open.
  pub inputs_noted : InputsSmall t inputs → InputsSmall (t + 1) inputs'
  inputs_noted before = record { small = λ k below. by k below (dec_lt k (3 * t)) }
    where
      by : (k : ℕ) → k < 3 * (t + 1) → Dec (k < 3 * t) → get_or inputs' k 0 < TERMS
      by k below (yes earlier) = rw (input_other k (inl earlier)) (before.small k earlier)
      by k below (no later) =
          let place : k ≡ 3 * t + (k - 3 * t) = omega arith in
          let own : get_or inputs' k 0 ≡ input_of kind (k - 3 * t) = ap (λ x. get_or inputs' x 0) place ∙ input_own (k - 3 * t) (omega arith) in
          rw own (input_small kind (notable_below asked) (k - 3 * t))

  pub linked_noted : {sets : List ℕ} → InputsSmall t inputs → Linked t heads inputs sets → Linked t heads' inputs' sets
  linked_noted before =
      linked_kept (omega (arith, asked.few)) (λ j k below place. before.small (3 * j + k) (omega arith)) (λ j below. head_other j (λ e. omega arith)) (λ k below. input_other k (inl below)) (λ k j low high h. h)

  pub opened_noted : {sets : List ℕ} → Opened t heads sets → Opened t heads' sets
  opened_noted = opened_same (λ j below. head_other j (λ e. omega arith)) refl
