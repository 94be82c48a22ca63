-- What closing asks for can be met: a problem of three terms, the notes of its lookups, and sets that serve it.
-- Main result: `shown_resting`. Assumes nothing.
use mathlib.Core.Path.{◌≡◌, refl, sym, ap, ◌∙◌}
use mathlib.Core.Bool.{true}
use mathlib.Core.List.{List, [], ◌∷◌}
use Prim.Native.Nat.{ℕ, zero, suc, ◌+◌, ◌*◌, ◌<◌}
use native.Mathlib.Omega.{arith}
use lib.ListN.{get_or, replicate, get_or-replicate, length-replicate}
use lib.IntN.{ℤ}
use Rattle.set_members.specs.Sets.{holds}
use Rattle.set_members.proofs.Digits.{holds_all}
use Rattle.rules_problem.specs.declared.Kind.TheVariants.{Variable, Lookup1}
use Rattle.rules_problem.specs.declared.Term.{Term}
use Rattle.rules_problem.specs.Lookup.{call_of, inputs_of, kind_at}
use Rattle.run_table.specs.Notes.{head_of, input_of, symbol_of, Lookups, InputsBelow}
use Rattle.run_table.specs.Sets.{SETS, users_of, earlier_of, pending_of, open_of, Linked}
use Rattle.run_table.specs.Work.{Rows, Resting}
use Rattle.run_due_pair.proofs.Heads.{inputs_below}
use Rattle.run_due_pair.proofs.Woken.{all_awake}

-- sets that hold every number
abbrev sets : List ℕ
sets = replicate SETS 18446744073709551615

-- a variable, and lookup 7 of it twice
abbrev terms : List Term
terms = record { kind = Variable 0 } ∷ record { kind = Lookup1 7 0 } ∷ record { kind = Lookup1 7 0 } ∷ []

abbrev heads : List ℕ
heads = 0 ∷ 263 ∷ 263 ∷ replicate 61 0

abbrev inputs : List ℕ
inputs = replicate 192 0

head_is : (t : ℕ) → t < 3 → get_or heads t 0 ≡ head_of (kind_at terms t)
unfolding head_of kind_at call_of
head_is zero below = refl
head_is (suc zero) below = refl
head_is (suc (suc zero)) below = refl
head_is (suc (suc (suc t))) below = absurd (omega arith)

symbol_is : (t : ℕ) → t < 3 → symbol_of (kind_at terms t) < 256
unfolding symbol_of kind_at call_of
symbol_is zero below = omega arith
symbol_is (suc zero) below = omega arith
symbol_is (suc (suc zero)) below = omega arith
symbol_is (suc (suc (suc t))) below = absurd (omega arith)

input_zero : (t i : ℕ) → t < 3 → input_of (kind_at terms t) i ≡ 0
unfolding input_of inputs_of kind_at call_of
input_zero zero i below = refl
input_zero (suc zero) zero below = refl
input_zero (suc zero) (suc i) below = refl
input_zero (suc (suc zero)) zero below = refl
input_zero (suc (suc zero)) (suc i) below = refl
input_zero (suc (suc (suc t))) i below = absurd (omega arith)

shown_lookups : Lookups terms 3 heads inputs
shown_lookups =
    record {
      count = refl;
      calls = record { head = head_is; input = λ t i p q. get_or-replicate 192 (3 * t + i) 0 0 (omega arith) ∙ sym (input_zero t i p) };
      symbols = symbol_is;
    }

shown_inputs : InputsBelow 3 inputs
shown_inputs = inputs_below shown_lookups.calls (λ t i p q. omega (arith, input_zero t i p))

holds_each : (k i : ℕ) → k < SETS → i < 64 → holds (get_or sets k 0) i ≡ true
holds_each k i place below = ap (λ set. holds set i) (get_or-replicate SETS k 18446744073709551615 0 place) ∙ holds_all i below

shown_linked : Linked 3 heads inputs sets
unfolding users_of earlier_of
shown_linked =
    record {
      users = λ j k below place lookup. let input = shown_inputs.below j k below place in holds_each (64 + get_or inputs (3 * j + k) 0) j (omega arith) (omega arith);
      earlier = λ i j before below lookup one. holds_each (128 + j) i (omega arith) (omega arith);
    }

shown_pending : (k : ℕ) → k < 64 → holds (pending_of sets) k ≡ true
unfolding pending_of
shown_pending k below = holds_each 192 k (omega arith) below

shown_open : (k : ℕ) → k < 64 → holds (open_of sets) k ≡ true
unfolding open_of
shown_open k below = holds_each 193 k (omega arith) below

-- Whatever the rows are, these sets serve.
pub shown_resting : {nums dens : List ℤ} → Rows 3 (record { nums = nums; dens = dens; sets = sets }) → Resting 3 heads inputs (record { nums = nums; dens = dens; sets = sets })
shown_resting rows =
    record {
      rows = rows;
      notes = record { heads_fit = omega arith; inputs_fit = omega (arith, length-replicate {A = ℕ} 192 0); below = shown_inputs; terms = terms; lookups = shown_lookups };
      linked = shown_linked;
      watched = λ other lookups. all_awake _ lookups (omega arith) shown_pending (λ j below lookup. shown_open j (omega arith));
    }
