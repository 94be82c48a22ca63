-- Unsolved unknowns are free: a form over them that vanishes wherever the assumptions are met is zero.
-- Main results: `zero_unless`, `image_vanishes`, `free`. Assume nothing.
use mathlib.Core.Path.{◌≡◌, sym, ap, ap₂, ◌∙◌}
use mathlib.Core.Logic.Dec
use mathlib.Core.Logic.{◌≢◌}
use mathlib.Core.List.{List}
use Prim.Native.Nat.{ℕ, zero, suc, ◌≤◌, ◌<◌}
use native.Mathlib.Decide.{dec_lt, ℕ_discrete}
use native.Mathlib.Omega.{arith}
use lib.ListN.{length}
use Rattle.whole.proofs.Commutative.{zero_add}
use Rattle.fraction.specs.Exact.{ℚ, zero_ℚ, one_ℚ, ◌+ℚ◌, ◌*ℚ◌}
use Rattle.fraction.proofs.Equality.{ℚ-discrete}
use Rattle.fraction.proofs.Field.{ℚ-ring, plus_zero, times_one, times_zero}
use Rattle.laws_linear.specs.Form.{Form, sum, eval}
use Rattle.laws_linear.proofs.Alone.{alone_there, alone_elsewhere}
use Rattle.laws_linear.proofs.Eval.{zero_times, times_equal}
use Rattle.laws_linear.proofs.Sum.{sum_equal, sum_zeros, sum_single}
use Rattle.rules_problem.specs.declared.Term.{Term}
use Rattle.rules_problem.specs.Problem.{Pair}
use Rattle.laws_valuation.specs.Valuation.{Valuation}
use Rattle.rules_run.specs.Row.{TERMS, cell}
use Rattle.rules_run.specs.Build.{alone}
use Rattle.rules_run.specs.Merge.{State}
use Rattle.laws_invariant.specs.Invariant.{Shaped, ValuesMeet, Unsolved, Completed}
use Rattle.laws_invariant.proofs.Units.{column_below}
use Rattle.laws_truth.specs.Sums.{weighted, weighted_row}
use Rattle.laws_truth.proofs.Weighted.{vanishes_exactly}

-- A sum whose later summands are zero is the sum of the others.
sum_shorter : (n N : ℕ) (g : ℕ → ℚ) → n ≤ N → ((c : ℕ) → n ≤ c → c < N → g c ≡ zero_ℚ) → sum n g ≡ sum N g
unfolding sum
sum_shorter n zero g most none = let empty : n ≡ 0 = omega arith in ap (λ k. sum k g) empty
sum_shorter n (suc N) g most none = by (ℕ_discrete n (suc N)) (sum_shorter n N g)
  where
    by : Dec (n ≡ suc N) → (n ≤ N → ((c : ℕ) → n ≤ c → c < N → g c ≡ zero_ℚ) → sum n g ≡ sum N g) → sum n g ≡ sum N g +ℚ g N
    by (yes all) before = ap (λ k. sum k g) all
    by (no other) before = before (omega arith) (λ c from below. none c from (omega arith)) ∙ sym (ap (λ x. sum N g +ℚ x) (none N (omega arith) (omega arith)) ∙ plus_zero (sum N g))

-- What cannot be other than zero is zero.
pub zero_unless : (q : ℚ) → (q ≢ zero_ℚ → ⊥) → q ≡ zero_ℚ
zero_unless q never = (Dec.not-not (ℚ-discrete q zero_ℚ)).0 never

module _ {rank : ℕ → ℕ} {terms : List Term} {pairs : List Pair} {state : State} (shaped : Shaped terms) (complete : Completed rank terms pairs pairs state) (f : Form) (vanishes : (v : ℕ → ℚ) → Valuation terms v → ValuesMeet v pairs → eval TERMS f v ≡ zero_ℚ) where
  -- D2w on forms: where a form vanishes wherever the assumptions are met, rows put for its columns give the zero row.
  pub image_vanishes : ((c : ℕ) → length terms ≤ c → c < TERMS → f c ≡ zero_ℚ) → (c : ℕ) → c ≤ TERMS → weighted_row (length terms) f (f TERMS) state.table c ≡ zero_ℚ
  unfolding weighted eval
  image_vanishes beyond = (vanishes_exactly shaped complete f (f TERMS)).0
      (λ v valued meets.
      ap (λ x. x +ℚ f TERMS) (sum_shorter (length terms) TERMS (λ c. f c *ℚ v c) shaped.fits (λ c past inside. ap (λ x. x *ℚ v c) (beyond c past inside) ∙ zero_times (v c)))
      ∙ vanishes v valued meets)

  module _ (unsolved : (c : ℕ) → c < TERMS → f c ≢ zero_ℚ → Unsolved terms state.table c) where
    beyond : (c : ℕ) → length terms ≤ c → c < TERMS → f c ≡ zero_ℚ
    beyond c past inside = zero_unless (f c) (λ other. let below = (unsolved c inside other).below in omega arith)

    -- An unsolved unknown's row is 1 at itself,
    own : (t c : ℕ) → t < length terms → c ≤ TERMS → f t *ℚ cell state.table t c ≡ f t *ℚ alone t one_ℚ c
    own t c below inside = let fits = shaped.fits in times_equal (f t) (λ some. (unsolved t (omega arith) some).itself c (column_below inside))

    -- so a form over unsolved unknowns is its own image: if it vanishes wherever the assumptions are met, it is zero.
    pub free : (c : ℕ) → c ≤ TERMS → f c ≡ zero_ℚ
    unfolding weighted_row weighted
    free c inside = by (dec_lt c (length terms)) (ℕ_discrete c TERMS)
      where
        image : sum (length terms) (λ t. f t *ℚ alone t one_ℚ c) +ℚ alone TERMS (f TERMS) c ≡ zero_ℚ
        image = ap (λ x. x +ℚ alone TERMS (f TERMS) c) (sym (sum_equal (length terms) (λ t below. own t c below inside))) ∙ image_vanishes beyond c inside

        other_columns : (t : ℕ) → t ≢ c → f t *ℚ alone t one_ℚ c ≡ zero_ℚ
        other_columns t other = ap (λ x. f t *ℚ x) (alone_elsewhere (λ same. other (sym same)) one_ℚ) ∙ times_zero (f t)

        by : Dec (c < length terms) → Dec (c ≡ TERMS) → f c ≡ zero_ℚ
        by (yes below) last =
            let fits = shaped.fits in
            sym (ap₂ ◌+ℚ◌
            (sum_single (length terms) c (λ t. f t *ℚ alone t one_ℚ c) below (λ t under. other_columns t) ∙ ap (λ x. f c *ℚ x) (alone_there c one_ℚ) ∙ times_one (f c))
            (alone_elsewhere (omega arith) (f TERMS)) ∙ plus_zero (f c)) ∙ image
        by (no past) (yes last) =
            let fits = shaped.fits in
            sym (ap₂ ◌+ℚ◌
            (sum_equal (length terms) (λ t under. other_columns t (omega arith)) ∙ sum_zeros (length terms))
            (ap (alone TERMS (f TERMS)) last ∙ alone_there TERMS (f TERMS) ∙ ap f (sym last)) ∙ zero_add ℚ-ring (f c)) ∙ image
        by (no past) (no inner) = beyond c (omega arith) (omega arith)
