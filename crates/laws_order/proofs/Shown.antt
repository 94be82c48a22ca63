-- The laws at a small problem: two variables x and y; x = y in the one string, y = x twice in the other.
-- Main results: `turned`, `not_refused`, `shown`. Assume nothing.
use mathlib.Core.Path.{◌≡◌, refl, sym, ap, ◌∙◌}
use mathlib.Core.Logic.{◌≢◌, inr}
use mathlib.Core.List.{List, [], ◌∷◌, ◌++◌}
use Prim.Native.Nat.{ℕ, zero, suc, ◌<◌}
use native.Mathlib.Omega.{arith}
use lib.ListN.{get_or-append}
use Rattle.answer.specs.Said.{entailed, said}
use Rattle.rules_problem.specs.Bits.{bit_at, field}
use Rattle.rules_run.specs.Run.{highest_number}
use Rattle.laws_invariant.proofs.Granted.{highest_number_strict}
use Rattle.rules_outcome.specs.Computed.{computed_answer}
use Rattle.rules_outcome.specs.Outcome.{Lent, Long, outcome}
use Rattle.rules_outcome.proofs.Decided.{outcome_answer}
use Rattle.rules_demands.specs.Demands.{word_of, NotRefused}
use Rattle.rules_demands.specs.Order.{SameOutcome}
use Rattle.laws_order.specs.SameBytes.{byte_at, term_count, pair_count, left_byte, right_byte, SamePair, PairsIn, SameBytes}
use Rattle.laws_order.proofs.Order.{same_bytes_same_outcome}

-- the goal x = y, and two variables
terms : List ℕ
terms = 0 ∷ 1 ∷ 16 ∷ 0 ∷ 0 ∷ 0 ∷ 0 ∷ 0 ∷ 0 ∷ 0 ∷ 16 ∷ 0 ∷ 0 ∷ 0 ∷ 0 ∷ 0 ∷ 0 ∷ 0 ∷ []

once : List ℕ
once = 2 ∷ 1 ∷ terms ++ 0 ∷ 1 ∷ []

twice : List ℕ
twice = 2 ∷ 2 ∷ terms ++ 1 ∷ 0 ∷ 1 ∷ 0 ∷ []

turned : SameBytes once twice
unfolding once twice terms byte_at term_count pair_count left_byte right_byte SamePair PairsIn field bit_at
turned = record { before = before; there = there; back = back }
  where
    before : (i : ℕ) → i < 20 → i ≢ 1 → byte_at once i ≡ byte_at twice i
    before zero below other = refl
    before (suc zero) below other = absurd (other refl)
    before (suc (suc i)) below other = get_or-append terms (0 ∷ 1 ∷ []) 0 i (omega arith) ∙ sym (get_or-append terms (1 ∷ 0 ∷ 1 ∷ 0 ∷ []) 0 i (omega arith))

    there : (k : ℕ) → k < 1 → (l : ℕ) × (l < 2) × SamePair once twice k l
    there zero below = (0, omega arith, inr (refl, refl))
    there (suc k) below = absurd (omega arith)

    back : (k : ℕ) → k < 2 → (l : ℕ) × (l < 1) × SamePair twice once k l
    back zero below = (0, omega arith, inr (refl, refl))
    back (suc zero) below = (0, omega arith, inr (refl, refl))
    back (suc (suc k)) below = absurd (omega arith)

-- Both strings are entailed,
both_entailed : ((computed_answer once).word ≡ entailed) × ((computed_answer twice).word ≡ entailed)
unfolding once twice terms computed_answer
both_entailed = (refl, refl)

-- What is entailed is not refused,
pub not_refused : (bytes : List ℕ) (lent : Lent) → Long lent → (computed_answer bytes).word ≡ entailed → NotRefused (outcome highest_number bytes lent)
unfolding NotRefused word_of computed_answer
not_refused bytes lent long says number refuses =
    let same = ap (λ a. (said a).word) (outcome_answer highest_number bytes lent long) in
    cc

-- so in lists that are long enough both end the same.
shown : (lent lent' : Lent) → Long lent → Long lent' → SameOutcome (outcome highest_number once lent) (outcome highest_number twice lent')
shown lent lent' long long' =
    same_bytes_same_outcome highest_number highest_number_strict once twice lent lent' turned
    (not_refused once lent long both_entailed.0) (not_refused twice lent' long' both_entailed.1)
