-- Closing keeps the invariant, ends with a closed table, and contradicts only where no valuation is left.
-- Main results: `equal_rows_forced`, `due_forced`, `solved_at_most`, `close_answers`, `close_made`, `close_contradicts`. Assume nothing.
use mathlib.Core.Path.{◌≡◌, refl, sym, ◌∙◌, subst}
use mathlib.Core.Logic.{◌⊎◌, inl, inr}
use mathlib.Core.Bool.{and-eq-true_iff}
use mathlib.Core.List.{List}
use mathlib.Core.Option.{Option, some, none}
use Prim.Native.Nat.{ℕ, zero, suc, ◌+◌, ◌≤◌, ◌<◌}
use native.Mathlib.Omega.{arith}
use lib.ListN.{length}
use Rattle.fraction.specs.Exact.{zero_ℚ, eq_ℚ}
use Rattle.fraction.specs.Made.{made, stopped, ◌>>=◌}
use Rattle.fraction.proofs.Answers.{Answers, if_made, answers_made, answers_stopped, answers_then, answers_bind}
use Rattle.laws_linear.proofs.Eval.{eval_equal}
use Rattle.rules_problem.specs.declared.Term.{Term}
use Rattle.rules_problem.specs.Lookup.{inputs_of, kind_at}
use Rattle.rules_problem.specs.Problem.{Pair}
use Rattle.laws_valuation.specs.Written.{Written}
use Rattle.laws_valuation.proofs.Readings.{inputs_below}
use Rattle.rules_run.specs.Row.{TERMS, cell}
use Rattle.rules_run.specs.Merge.{State, contradiction, merge}
use Rattle.rules_run.specs.Close.{due, close_for, close}
use Rattle.laws_invariant.specs.Rows.{EqualCells}
use Rattle.laws_invariant.specs.Invariant.{Shaped, OneToOne, Equates, NoneMeets, is_unknown, is_solved, count, Invariant, Completed, Stopped}
use Rattle.laws_invariant.proofs.Count.{count_at_most, count_below}
use Rattle.laws_invariant.proofs.Due.{Due, due_some, due_none}
use Rattle.laws_invariant.proofs.Merge.{merge_answers}
use Rattle.laws_invariant.proofs.Rows.{equal_places_values}
use Rattle.laws_invariant.proofs.Units.{column_below}

module _ {rank : ℕ → ℕ} {terms : List Term} {inForce met : List Pair} {state : State} (inv : Invariant rank terms inForce met state) where
  -- Equal rows are forced equal.
  pub equal_rows_forced : (t u : ℕ) → t < length terms → u < length terms → EqualCells state.table t u → Equates terms inForce t u
  unfolding Equates
  equal_rows_forced t u t-below u-below same v valued meets =
      let sound = inv.sound v valued meets in
      sound t t-below ∙ eval_equal TERMS (λ c inside. same c (column_below inside)) (λ c inside nonzero. refl) ∙ sym (sound u u-below)

  -- A pair that is due is forced equal: equal rows of the inputs give them equal values, so the lookups have equal values.
  pub due_forced : Shaped terms → (i j : ℕ) → Due terms state.table i j → Equates terms inForce i j
  unfolding Equates
  due_forced shaped i j pair v valued meets =
      valued.congruent i j pair.before pair.below pair.similar
      (equal_places_values state.table v (inputs_of (kind_at terms i)) (inputs_of (kind_at terms j))
      (λ t u first second same. equal_rows_forced t u (inputs_below terms written i (omega (arith, pair.before, pair.below)) t first) (inputs_below terms written j pair.below u second) same v valued meets)
      pair.inputs)
    where
      written : Written terms
      written = record { earlier = shaped.earlier }

  -- The count is at most the number of unknowns, which is at most that of the terms.
  pub solved_at_most : state.solved ≤ count (length terms) (λ c. is_unknown (kind_at terms c))
  unfolding is_solved
  solved_at_most = rw inv.counted (count_at_most (length terms) (is_solved terms state.table) (λ c. is_unknown (kind_at terms c)) (λ c below solved. ((and-eq-true_iff (is_unknown (kind_at terms c)) (eq_ℚ (cell state.table c c) zero_ℚ)).0 solved).0))

  solved_below : state.solved ≤ length terms
  solved_below = let most = solved_at_most in let all = count_below (length terms) (λ c. is_unknown (kind_at terms c)) in omega arith

module _ (rank : ℕ → ℕ) (terms : List Term) (inForce met : List Pair) (one-to-one : OneToOne rank) (shaped : Shaped terms) where
  -- A merge of a pair that is due solves one more unknown.
  due_merged : (state : State) (i j : ℕ) → Invariant rank terms inForce met state → Due terms state.table i j → Answers (λ after. Invariant rank terms inForce met after × (after.solved ≡ suc state.solved)) (Stopped terms inForce) (merge rank i j state)
  due_merged state i j inv pair =
      let merged = merge_answers rank terms inForce met state i j one-to-one shaped.fits (omega (arith, pair.before, pair.below)) pair.below (due_forced inv shaped i j pair) inv in
      answers_then merged (λ after done. (done.invariant, by after done.meets done.grows))
    where
      by : (after : State) → EqualCells after.table i j → (after ≡ state) ⊎ (after.solved ≡ suc state.solved) → after.solved ≡ suc state.solved
      by after meets (inl same) = absurd (pair.unequal (subst (λ s. EqualCells s.table i j) same meets))
      by after meets (inr grown) = grown

  -- With turns to spare, closing ends where nothing is due.
  close_for_answers : (turns : ℕ) (state : State) → Invariant rank terms inForce met state → length terms < turns + state.solved → Answers (Completed rank terms inForce met) (Stopped terms inForce) (close_for turns rank terms state)
  unfolding close_for
  close_for_answers zero state inv spare = let most = solved_below inv in absurd (omega arith)
  close_for_answers (suc turns) state inv spare = by (due terms state.table) refl (close_for_answers turns)
    where
      by : (o : Option Pair) → due terms state.table ≡ o
          → ((next : State) → Invariant rank terms inForce met next → length terms < turns + next.solved → Answers (Completed rank terms inForce met) (Stopped terms inForce) (close_for turns rank terms next))
          → Answers (Completed rank terms inForce met) (Stopped terms inForce) (elim o [ none ↦ made state | some pair ↦ merge rank pair.left pair.right state >>= close_for turns rank terms ])
      by none nothing later = if_made (record { invariant = inv; closed = due_none terms state.table nothing })
      by (some pair) found later =
          answers_bind (due_merged state pair.left pair.right inv (due_some terms state.table pair found)) (λ next done. later next done.0 (omega (arith, done.1)))

  -- Closing that is made keeps the invariant and leaves a closed table; closing that contradicts leaves no valuation.
  pub close_answers : (state : State) → Invariant rank terms inForce met state → Answers (Completed rank terms inForce met) (Stopped terms inForce) (close rank terms state)
  unfolding close
  close_answers state inv = close_for_answers (suc (length terms)) state inv (omega arith)

  pub close_made : (state after : State) → Invariant rank terms inForce met state → close rank terms state ≡ made after → Completed rank terms inForce met after
  close_made state after inv h = answers_made (close_answers state inv) h

  pub close_contradicts : (state : State) → Invariant rank terms inForce met state → close rank terms state ≡ stopped contradiction → NoneMeets terms inForce
  unfolding Stopped
  close_contradicts state inv h = answers_stopped (close_answers state inv) h
