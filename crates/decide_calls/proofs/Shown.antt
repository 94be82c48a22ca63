-- The law of two calls at case C: f⁵(x)=x and f³(x)=x, as document 01 has them, and turned, repeated and in another order.
-- Main results: `c_turned`, `c_computed`, `c_agreed`. Assume nothing.
use mathlib.Core.Path.{◌≡◌, refl, sym, ap, ◌∙◌}
use mathlib.Core.Logic.{◌≢◌, inl, inr}
use mathlib.Core.List.{List, ◌∷◌, ◌++◌}
use Prim.Native.Nat.{ℕ, zero, suc, ◌<◌}
use native.Mathlib.Omega.{arith}
use lib.ListN.{get_or-append}
use Rattle.answer.specs.Said.{entailed, Said}
use Rattle.fraction.specs.Made.{made}
use Rattle.rules_problem.specs.Bits.{bit_at, field}
use Rattle.rules_problem.specs.Problem.{Problem, decoded}
use Rattle.rules_run.specs.Run.{highest_number}
use Rattle.rules_outcome.specs.Computed.{computed_answer}
use Rattle.rules_outcome.specs.Outcome.{Lent, Long, outcome}
use Rattle.laws_order.specs.SameBytes.{byte_at, term_count, pair_count, left_byte, right_byte, SamePair, PairsIn, SameBytes}
use Rattle.laws_order.proofs.Shown.{not_refused}
use Rattle.cases_starred.specs.Table.{bytes}
use Rattle.decide.proofs.Whole.{decided}
use Rattle.decide_calls.specs.Agreed.{Deciding, Agreed}
use Rattle.decide_calls.proofs.Calls.{calls_agree}

-- the goal f(x)=x, and x, f(x) to f⁵(x)
terms : List ℕ
terms = bytes 50 0x0100_1000000000000000_6070000000000000_6070100000000000_6070200000000000_6070300000000000_6070400000000000

-- f⁵(x)=x, f³(x)=x
pub in_file_order : List ℕ
in_file_order = 6 ∷ 2 ∷ terms ++ bytes 4 0x0500_0300

-- x=f³(x), f⁵(x)=x, f³(x)=x, x=f⁵(x)
pub turned : List ℕ
turned = 6 ∷ 4 ∷ terms ++ bytes 8 0x0003_0500_0300_0005

-- The two strings hold the same problem up to order.
pub c_turned : SameBytes in_file_order turned
unfolding terms in_file_order turned bytes byte_at term_count pair_count left_byte right_byte SamePair PairsIn field bit_at
c_turned = record { before = before; there = there; back = back }
  where
    before : (i : ℕ) → i < 52 → i ≢ 1 → byte_at in_file_order i ≡ byte_at turned i
    before zero below other = refl
    before (suc zero) below other = absurd (other refl)
    before (suc (suc i)) below other = get_or-append terms (bytes 4 0x0500_0300) 0 i (omega arith) ∙ sym (get_or-append terms (bytes 8 0x0003_0500_0300_0005) 0 i (omega arith))

    there : (k : ℕ) → k < 2 → (l : ℕ) × (l < 4) × SamePair in_file_order turned k l
    there zero below = (1, omega arith, inl (refl, refl))
    there (suc zero) below = (0, omega arith, inr (refl, refl))
    there (suc (suc k)) below = absurd (omega arith)

    back : (k : ℕ) → k < 4 → (l : ℕ) × (l < 2) × SamePair turned in_file_order k l
    back zero below = (1, omega arith, inr (refl, refl))
    back (suc zero) below = (0, omega arith, inl (refl, refl))
    back (suc (suc zero)) below = (1, omega arith, inl (refl, refl))
    back (suc (suc (suc zero))) below = (0, omega arith, inr (refl, refl))
    back (suc (suc (suc (suc k)))) below = absurd (omega arith)

pub entailed_by : (count : ℕ) → Said
entailed_by count = record { word = entailed; place = 0; count = count }

-- A call on a string, as the rules lay it down.
call : (bytes : List ℕ) → Lent → Deciding
call bytes lent = record { bytes = bytes; lent = lent; back = outcome highest_number bytes lent; promised = decided refl }

-- Both are entailed, with 5 solved,
pub c_computed : (computed_answer in_file_order ≡ entailed_by 5) × (computed_answer turned ≡ entailed_by 5)
unfolding computed_answer entailed_by terms in_file_order turned bytes
c_computed = (refl, refl)

-- so two calls on them agree, in lists of any length that is enough.
pub c_agreed : (lent lent' : Lent) → Long lent → Long lent' → (p : Problem) × (q : Problem) × (decoded in_file_order ≡ made p) × (decoded turned ≡ made q) × Agreed p q (outcome highest_number in_file_order lent) (outcome highest_number turned lent')
unfolding call entailed_by
c_agreed lent lent' long long' =
    calls_agree.of_bytes (call in_file_order lent) (call turned lent') c_turned
    (not_refused in_file_order lent long (ap (λ s. s.word) c_computed.0))
    (not_refused turned lent' long' (ap (λ s. s.word) c_computed.1))
