-- Two finished tables over the same terms whose assumptions are met by the same values are the same table.
-- Main results: `same_unsolved` (C2), `same_cells` (C3), `same_count`, `same_judged` (C4). Assume nothing.
use mathlib.Core.Path.{◌≡◌, refl, sym, ap, ap₂, ◌∙◌}
use mathlib.Core.Logic.{◌≢◌, ◌↔◌, ◌⊎◌, inl, inr, ⊎_elim}
use mathlib.Core.Bool.{◌&&◌, cond}
use mathlib.Core.List.{List, [], ◌∷◌}
use Prim.Native.Nat.{ℕ, zero, suc, ◌≤◌, ◌<◌}
use native.Mathlib.Decide.{dec_lt}
use native.Mathlib.Omega.{arith}
use lib.ListN.{length}
use Rattle.whole.proofs.Solver.{ring}
use Rattle.answer.specs.declared.Answer.TheVariants.{Entailed, NotEntailed}
use Rattle.fraction.specs.Exact.{ℚ, zero_ℚ, one_ℚ, ◌+ℚ◌, ◌-ℚ◌, ◌*ℚ◌, eq_ℚ}
use Rattle.fraction.proofs.Equality.{ℚ-discrete}
use Rattle.fraction.proofs.Field.{ℚ-ring, readsℚ, plus_zero, times_zero, difference_zero, one_not_zero}
use Rattle.laws_linear.specs.Form.{Form, eval}
use Rattle.laws_linear.proofs.Alone.{alone_there, alone_elsewhere}
use Rattle.laws_linear.proofs.Eval.{zero_times, eval_minus}
use Rattle.laws_linear.proofs.Sum.{sum_single}
use Rattle.rules_problem.specs.declared.Term.{Term}
use Rattle.rules_problem.specs.Lookup.{kind_at}
use Rattle.rules_problem.specs.Problem.{Pair}
use Rattle.laws_valuation.specs.Valuation.{Valuation}
use Rattle.rules_run.specs.Row.{TERMS, COLUMNS, Row, Table, column, row_of, cell, same_to, same_row}
use Rattle.rules_run.specs.Build.{alone}
use Rattle.rules_run.specs.Merge.{State}
use Rattle.rules_run.specs.Run.{judged}
use Rattle.laws_invariant.specs.Invariant.{Shaped, ValuesMeet, Unsolved, Lower, is_unknown, is_solved, Completed}
use Rattle.laws_invariant.proofs.Count.{count_equal}
use Rattle.laws_invariant.proofs.Solved.{unsolved_there}
use Rattle.laws_invariant.proofs.Steps.{cell_past}
use Rattle.laws_invariant.proofs.Units.{alone_value, column_below}
use Rattle.laws_truth.specs.Sums.{weighted, weighted_row}
use Rattle.laws_order.proofs.Free.{zero_unless, image_vanishes, free}

-- The test of two rows depends on their numbers only.
same_to_congruent : (N : ℕ) (r r' s s' : Row) → ((c : ℕ) → c < N → column r c ≡ column r' c) → ((c : ℕ) → c < N → column s c ≡ column s' c) → same_to N r s ≡ same_to N r' s'
unfolding same_to
same_to_congruent zero r r' s s' first second = refl
same_to_congruent (suc k) r r' s s' first second =
    ap₂ ◌&&◌ (ap₂ eq_ℚ (first k (omega arith)) (second k (omega arith))) (same_to_congruent k r r' s s' (λ c below. first c (omega arith)) (λ c below. second c (omega arith)))

-- the unknown c minus the row of c
abbrev less_row : Table → (c : ℕ) → Form
less_row table c t = alone c one_ℚ t -ℚ cell table c t

module _ {rank : ℕ → ℕ} {terms : List Term} (shaped : Shaped terms) where
  module _ {pairs pairs' : List Pair} {state state' : State} (complete : Completed rank terms pairs pairs state) (complete' : Completed rank terms pairs' pairs' state') (meets-too : (v : ℕ → ℚ) → ValuesMeet v pairs' → ValuesMeet v pairs) where
    module _ (c : ℕ) (lower : Lower rank state.table c) (unsolved : Unsolved terms state'.table c) where
      inside : {t : ℕ} → t < length terms → t < TERMS
      inside below = let fits = shaped.fits in omega arith

      vanishes : (v : ℕ → ℚ) → Valuation terms v → ValuesMeet v pairs' → eval TERMS (less_row state.table c) v ≡ zero_ℚ
      vanishes v valued meets =
          eval_minus TERMS (alone c one_ℚ) (cell state.table c) v
          ∙ ap₂ ◌-ℚ◌ (alone_value c v (inside unsolved.below)) (sym (complete.invariant.sound v valued (meets-too v meets) c unsolved.below))
          ∙ ring ℚ-ring (v c ∷ []) (search readsℚ depth 20) refl

      other_column : (t : ℕ) → t ≢ c → cell state.table c t ≡ zero_ℚ → less_row state.table c t ≡ zero_ℚ
      other_column t other none = ap₂ ◌-ℚ◌ (alone_elsewhere other one_ℚ) none ∙ ring ℚ-ring [] (search readsℚ depth 20) refl

      beyond : (t : ℕ) → length terms ≤ t → t < TERMS → less_row state.table c t ≡ zero_ℚ
      beyond t past below = other_column t (λ same. let first = unsolved.below in omega arith) (zero_unless _ (λ some. let early = (complete.invariant.columns c t below some).below in omega arith))

      -- Every other column of the row ranks below c, so that its row in the second table has no column c.
      elsewhere : (t : ℕ) → t < length terms → t ≢ c → less_row state.table c t *ℚ cell state'.table t c ≡ zero_ℚ
      unfolding Lower
      elsewhere t below other = by (ℚ-discrete (cell state.table c t) zero_ℚ)
        where
          row : rank t < rank c → Unsolved terms state'.table t ⊎ Lower rank state'.table t → cell state'.table t c ≡ zero_ℚ
          row before (inl own) = own.itself c (column_below (omega (arith, inside unsolved.below))) ∙ alone_elsewhere (λ same. other (sym same)) one_ℚ
          row before (inr lower') = zero_unless (cell state'.table t c) (λ some. let after = lower' c (inside unsolved.below) some in omega arith)

          by : Dec (cell state.table c t ≡ zero_ℚ) → less_row state.table c t *ℚ cell state'.table t c ≡ zero_ℚ
          by (yes none) = ap (λ x. x *ℚ cell state'.table t c) (other_column t other none) ∙ zero_times (cell state'.table t c)
          by (no some) =
              let known = (complete.invariant.columns c t (inside below) some).unknown in
              ap (λ x. less_row state.table c t *ℚ x) (row (lower t (inside below) some) (complete'.invariant.triangular t below known)) ∙ times_zero (less_row state.table c t)

      -- So column c of the image of that form would be 1, where the second table has c unsolved.
      solved_in_both : ⊥
      unfolding weighted_row weighted Lower
      solved_in_both = one_not_zero (sym column ∙ image_vanishes shaped complete' (less_row state.table c) vanishes beyond c (omega (arith, inside unsolved.below)))
        where
          own : less_row state.table c c *ℚ cell state'.table c c ≡ one_ℚ
          own =
              ap₂ ◌*ℚ◌ (ap₂ ◌-ℚ◌ (alone_there c one_ℚ) (zero_unless (cell state.table c c) (λ some. let itself = lower c (inside unsolved.below) some in omega arith)))
              (unsolved_there terms state'.table c (inside unsolved.below) unsolved)
              ∙ ring ℚ-ring [] (search readsℚ depth 20) refl

          column : weighted_row (length terms) (less_row state.table c) (less_row state.table c TERMS) state'.table c ≡ one_ℚ
          column =
              ap₂ ◌+ℚ◌ (sum_single (length terms) c (λ t. less_row state.table c t *ℚ cell state'.table t c) unsolved.below elsewhere ∙ own)
              (alone_elsewhere (λ same. let below = inside unsolved.below in omega arith) (less_row state.table c TERMS))
              ∙ plus_zero one_ℚ

    -- An unknown that is unsolved in the second table is so in the first.
    unsolved_too : (c : ℕ) → Unsolved terms state'.table c → Unsolved terms state.table c
    unsolved_too c unsolved = ⊎_elim (λ own. own) (λ lower. absurd (solved_in_both c lower unsolved)) (complete.invariant.triangular c unsolved.below unsolved.unknown)

  module _ {pairs pairs' : List Pair} {state state' : State} (complete : Completed rank terms pairs pairs state) (complete' : Completed rank terms pairs' pairs' state') (same : (v : ℕ → ℚ) → ValuesMeet v pairs ↔ ValuesMeet v pairs') where
    -- C2: the same unknowns are solved.
    pub same_unsolved : (c : ℕ) → Unsolved terms state.table c ↔ Unsolved terms state'.table c
    same_unsolved c = (unsolved_too complete' complete (λ v. (same v).0) c, unsolved_too complete complete' (λ v. (same v).1) c)

    -- C3: the rows are the same, number for number: their difference vanishes wherever the assumptions are met, and its columns
    -- are unsolved unknowns, which are free.
    pub same_cells : (t c : ℕ) → c < COLUMNS → cell state.table t c ≡ cell state'.table t c
    same_cells t c inside = by (dec_lt t (length terms))
      where
        difference : Form
        difference k = cell state.table t k -ℚ cell state'.table t k

        vanishes : t < length terms → (v : ℕ → ℚ) → Valuation terms v → ValuesMeet v pairs' → eval TERMS difference v ≡ zero_ℚ
        vanishes below v valued meets =
            eval_minus TERMS (cell state.table t) (cell state'.table t) v
            ∙ ap₂ ◌-ℚ◌ (sym (complete.invariant.sound v valued ((same v).1 meets) t below)) (sym (complete'.invariant.sound v valued meets t below))
            ∙ ring ℚ-ring (v t ∷ []) (search readsℚ depth 20) refl

        unsolved : (k : ℕ) → k < TERMS → difference k ≢ zero_ℚ → Dec (cell state.table t k ≡ zero_ℚ) → Unsolved terms state'.table k
        unsolved k below some (no first) = (same_unsolved k).0 (complete.invariant.columns t k below first)
        unsolved k below some (yes none) = complete'.invariant.columns t k below (λ none'. some (ap₂ ◌-ℚ◌ none none' ∙ ring ℚ-ring [] (search readsℚ depth 20) refl))

        by : Dec (t < length terms) → cell state.table t c ≡ cell state'.table t c
        by (yes below) = difference_zero _ _ (free shaped complete' difference (vanishes below) (λ k k-below some. unsolved k k-below some (ℚ-discrete (cell state.table t k) zero_ℚ)) c (omega arith))
        by (no past) =
            let sized = complete.invariant.sized in
            let sized' = complete'.invariant.sized in
            cell_past state.table t c (omega arith) ∙ sym (cell_past state'.table t c (omega arith))

    -- C4: the counts are the same,
    pub same_count : state.solved ≡ state'.solved
    unfolding is_solved
    same_count =
        complete.invariant.counted
        ∙ count_equal (length terms) (is_solved terms state.table) (is_solved terms state'.table) (λ c below. ap (λ q. is_unknown (kind_at terms c) && eq_ℚ q zero_ℚ) (same_cells c c (column_below (omega (arith, shaped.fits)))))
        ∙ sym complete'.invariant.counted

    -- and so is what is said of the goal.
    pub same_judged : (goal : Pair) → judged goal state ≡ judged goal state'
    unfolding judged same_row cell
    same_judged goal =
        ap₂ (λ b k. cond b (Entailed k) (NotEntailed k))
        (same_to_congruent COLUMNS (row_of state.table goal.left) (row_of state'.table goal.left) (row_of state.table goal.right) (row_of state'.table goal.right) (same_cells goal.left) (same_cells goal.right))
        same_count
