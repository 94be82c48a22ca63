-- A merge keeps the invariant, and contradicts only where no valuation is left.
-- Main results: `restated`, `Merged`, `merge_answers`, `merge_made`, `merge_contradicts`. Assume nothing.
use mathlib.Core.Path.{◌≡◌, refl, sym, ◌∙◌}
use mathlib.Core.Logic.{◌⊎◌, inl, inr}
use mathlib.Core.Bool.{Bool, true, false, cond}
use mathlib.Core.List.{List, Memᴰ}
use mathlib.Core.Option.{Option, some, none}
use Prim.Native.Nat.{ℕ, suc, ◌≤◌, ◌<◌}
use lib.ListN.{length}
use Rattle.fraction.specs.Exact.{ℚ, zero_ℚ, eq_ℚ}
use Rattle.fraction.specs.Made.{made, stopped}
use Rattle.fraction.proofs.Answers.{Answers, if_made, if_stopped, answers_made, answers_stopped, answers_with, answers_bind, answers_because}
use Rattle.fraction.proofs.Equality.{eq_ℚ_yes, eq_ℚ_no}
use Rattle.laws_linear.proofs.Eval.{eval_constant}
use Rattle.rules_problem.specs.declared.Term.{Term}
use Rattle.rules_problem.specs.Problem.{Pair}
use Rattle.rules_run.specs.Row.{Row, TERMS, constant, column, cell}
use Rattle.rules_run.specs.Merge.{State, contradiction, refused_for, pivot, solve, settle, merge}
use Rattle.laws_invariant.specs.Rows.{EqualCells}
use Rattle.laws_invariant.specs.Invariant.{OneToOne, ValuesMeet, Equates, NoneMeets, Invariant, Stopped}
use Rattle.laws_invariant.proofs.Meets.{Differs, rows_differ, solve_meets, constant_only}
use Rattle.laws_invariant.proofs.Pivot.{pivot_some, pivot_none}
use Rattle.laws_invariant.proofs.Range.{difference_ranged, solve_ranged}
use Rattle.laws_invariant.proofs.Solve.{difference_value, solve_equal, solve_invariant}
use Rattle.laws_invariant.proofs.Steps.{solve_made}

-- The invariant holds with more assumptions in force, and for any met that have equal rows.
pub restated : {rank : ℕ → ℕ} {terms : List Term} {inForce more met others : List Pair} {state : State} → ((v : ℕ → ℚ) → ValuesMeet v more → ValuesMeet v inForce) → ((pair : Pair) → Memᴰ pair others → EqualCells state.table pair.left pair.right) → Invariant rank terms inForce met state → Invariant rank terms more others state
restated in_force equal inv = record {
  sized = inv.sized;
  columns = inv.columns;
  triangular = inv.triangular;
  arithmetic = inv.arithmetic;
  sound = λ v valued meets. inv.sound v valued (in_force v meets);
  equal = equal;
  counted = inv.counted;
}

-- What a merge of t and u leaves: the invariant, equal rows of t and u and of all that had equal rows (F3), and the state as it
-- was or one more unknown solved.
pub record Merged (rank : ℕ → ℕ) (terms : List Term) (inForce met : List Pair) (t u : ℕ) (state after : State) : Type 0 where
  pub invariant : Invariant rank terms inForce met after
  pub meets : EqualCells after.table t u
  pub keeps : (i j : ℕ) → EqualCells state.table i j → EqualCells after.table i j
  pub grows : (after ≡ state) ⊎ (after.solved ≡ suc state.solved)

module _ (rank : ℕ → ℕ) (terms : List Term) (inForce met : List Pair) (state : State) (t u : ℕ)
    (one-to-one : OneToOne rank) (fits : length terms ≤ TERMS) (t-below : t < length terms) (u-below : u < length terms)
    (equates : Equates terms inForce t u) (inv : Invariant rank terms inForce met state) where
  settle_answers : (d : Row) → Differs state.table t u d → (o : Option ℕ) → pivot rank TERMS d ≡ o → Answers (Merged rank terms inForce met t u state) (Stopped terms inForce) (settle d state o)
  unfolding settle Stopped NoneMeets Equates
  settle_answers d differs (some p) found = answers_because refused_for (answers_with (solve_ranged p d state) solved) (λ why range. range)
    where
      solved : (after : State) → solve p d state ≡ made after → Merged rank terms inForce met t u state after
      solved after h =
          let chosen = pivot_some rank d TERMS p found in
          let solves = solve_made p d state after h in
          record {
            invariant = solve_invariant rank terms inForce met state after t u p d one-to-one inv differs chosen solves fits t-below u-below equates;
            meets = solve_meets differs chosen solves;
            keeps = solve_equal rank terms inForce met state after t u p d one-to-one inv differs chosen solves;
            grows = inr solves.counts;
          }
  settle_answers d differs none empty = by (eq_ℚ (column d constant) zero_ℚ) refl
    where
      by : (b : Bool) → eq_ℚ (column d constant) zero_ℚ ≡ b → Answers (Merged rank terms inForce met t u state) (Stopped terms inForce) (cond b (made state) (stopped contradiction))
      by true zero = if_made (record {
        invariant = inv;
        meets = constant_only rank d differs empty (eq_ℚ_yes _ _ zero);
        keeps = λ i j before. before;
        grows = inl refl;
      })
      -- F5: the difference has the value 0 in every valuation that meets the assumptions, and is a constant other than 0
      by false other = if_stopped {why = contradiction} (λ v valued meets.
          let sound = inv.sound v valued meets in
          eq_ℚ_no _ _ other
          (sym (eval_constant TERMS (column d) v (pivot_none rank d TERMS empty))
          ∙ difference_value state.table t u d v differs (sym (sound t t-below) ∙ equates v valued meets ∙ sound u u-below)))

  -- A merge that is made keeps the invariant; one that contradicts leaves no valuation.
  pub merge_answers : Answers (Merged rank terms inForce met t u state) (Stopped terms inForce) (merge rank t u state)
  unfolding merge cell Stopped
  merge_answers =
      answers_bind
      (answers_because refused_for (answers_with (difference_ranged _ _) (λ d h. rows_differ h)) (λ why range. range))
      (λ d differs. settle_answers d differs (pivot rank TERMS d) refl)

  pub merge_made : (after : State) → merge rank t u state ≡ made after → Merged rank terms inForce met t u state after
  merge_made after h = answers_made merge_answers h

  pub merge_contradicts : merge rank t u state ≡ stopped contradiction → NoneMeets terms inForce
  unfolding Stopped
  merge_contradicts h = answers_stopped merge_answers h
