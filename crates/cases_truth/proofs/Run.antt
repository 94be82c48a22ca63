-- The laws of a finished run at case A.
-- Main results: `a_finished`, `a_complete`, `a_model`, `a_balanced`. Assume nothing.
use mathlib.Core.Path.{◌≡◌, refl}
use mathlib.Core.Logic.{◌↔◌}
use mathlib.Core.Bool.{Bool, true, ◌&&◌, and-eq-true_iff, cond}
use mathlib.Core.List.{[]}
use Prim.Native.Nat.{ℕ, zero, suc, ◌<◌}
use native.Mathlib.Omega.{arith}
use lib.Dec.{eqb}
use lib.ListN.{length}
use lib.IntN.{ℤ, pos, negsuc}
use Rattle.answer.specs.declared.Answer.{Answer}
use Rattle.fraction.specs.Exact.{ℚ, whole, zero_ℚ, eq_ℚ}
use Rattle.fraction.specs.Made.{Made, made, stopped}
use Rattle.fraction.proofs.Equality.{eq_ℚ_yes}
use Rattle.rules_run.specs.Build.{alone}
use Rattle.laws_linear.specs.Form.{sum}
use Rattle.rules_reading.specs.Forced.{Met}
use Rattle.laws_valuation.specs.Sound.{Sound}
use Rattle.laws_valuation.specs.Valuation.{Valuation}
use Rattle.laws_valuation.proofs.Decoded.{decoded_sound}
use Rattle.rules_run.specs.Merge.{State}
use Rattle.rules_run.specs.Run.{highest_number, run}
use Rattle.rules_run.specs.Computed.{computed_run}
use Rattle.laws_invariant.specs.Rows.{EqualCells}
use Rattle.laws_invariant.specs.Invariant.{ValuesMeet, Completed}
use Rattle.laws_linear.proofs.Upto.{last_or_before}
use Rattle.laws_truth.specs.Numbers.{weighted_number}
use Rattle.laws_truth.specs.Sums.{weighted, weighted_row}
use Rattle.laws_truth.proofs.Balanced.{balanced_exactly}
use Rattle.laws_truth.proofs.Decided.{finished_complete}
use Rattle.laws_truth.proofs.Equated.{told_apart}
use Rattle.laws_invariant.proofs.Granted.{highest_number_strict, sound_shaped}
use Rattle.cases_starred.specs.Table.{case_a}
use Rattle.cases_truth.specs.Problems.{problem_a}
use Rattle.cases_truth.proofs.Shown.{case_a_not_entailed}

-- whether the first columns are zero
zeros : (count : ℕ) → (ℕ → ℚ) → Bool
zeros zero f = true
zeros (suc c) f = eq_ℚ (f c) zero_ℚ && zeros c f

zeros_below : (count : ℕ) (f : ℕ → ℚ) → zeros count f ≡ true → (c : ℕ) → c < count → f c ≡ zero_ℚ
unfolding zeros
zeros_below zero f h c below = absurd (omega arith)
zeros_below (suc k) f h c below =
    let (here, before) = (and-eq-true_iff (eq_ℚ (f k) zero_ℚ) (zeros k f)).0 h in
    last_or_before k (eq_ℚ_yes _ _ here) (zeros_below k f before) c below

-- the state that a run ends with
unfoldable pub ending : Made Answer State → State
ending (made state) = state
ending (stopped answer) = record { table = []; solved = 0 }

unfoldable pub state_a : State
state_a = ending (run highest_number problem_a)

a_sound : Sound problem_a
a_sound = decoded_sound case_a.problem problem_a case_a_not_entailed.holds

pub a_finished : run highest_number problem_a ≡ made state_a
unfolding computed_run problem_a ending state_a
a_finished = refl

-- the weight 2 for term 2
pub twice : ℕ → ℤ
twice t = cond (eqb t 2) (pos 2) (pos 0)

a_zero : zeros 65 (weighted_row 4 (λ t. whole (twice t)) (whole (negsuc 2)) state_a.table) ≡ true
unfolding computed_run problem_a ending state_a zeros twice weighted_row weighted sum alone
a_zero = refl

-- The run of case A ends with the invariant and a closed table,
pub a_complete : Completed (highest_number problem_a.terms) problem_a.terms problem_a.pairs problem_a.pairs state_a
a_complete = finished_complete highest_number problem_a highest_number_strict a_sound state_a a_finished

-- a valuation meets its assumption that tells different rows apart,
pub a_model : (v : ℕ → ℚ) × Valuation problem_a.terms v × ValuesMeet v problem_a.pairs × ((t u : ℕ) → t < length problem_a.terms → u < length problem_a.terms → (v t ≡ v u) ↔ EqualCells state_a.table t u)
a_model = told_apart (sound_shaped problem_a a_sound) a_complete

-- and every reading that meets it makes twice f(-1/8 x) equal to 3, since twice that row less 3 is zero in every column.
pub a_balanced : (met : Met problem_a) → weighted_number twice (negsuc 2) met.reading ≡ pos 0
unfolding problem_a
a_balanced = (balanced_exactly highest_number problem_a highest_number_strict a_sound state_a a_finished twice (negsuc 2)).1 (λ c below. zeros_below 65 _ a_zero c (omega arith))
