-- Solving an unknown from the difference of two rows keeps the invariant (F4).
-- Main results: `solve_equal`, `solve_invariant`. Assume nothing.
use mathlib.Core.Path.{◌≡◌, refl, sym, ap, ap₂, ◌∙◌}
use mathlib.Core.Logic.{◌≢◌, ◌⊎◌, inl, inr}
use mathlib.Core.Bool.{Bool, true, false}
use mathlib.Core.List.{List, [], ◌∷◌}
use Prim.Native.Nat.{ℕ, suc, ◌≤◌, ◌<◌}
use native.Mathlib.Decide.{ℕ_discrete}
use native.Mathlib.Omega.{arith}
use lib.ListN.{length}
use Rattle.whole.proofs.Solver.{ring}
use Rattle.whole.proofs.Commutative.{combined}
use Rattle.fraction.specs.Exact.{ℚ, zero_ℚ, one_ℚ, ◌-ℚ◌}
use Rattle.fraction.proofs.Equality.{ℚ-discrete}
use Rattle.fraction.proofs.Field.{ℚ-ring, readsℚ, plus_zero, times_zero}
use Rattle.laws_linear.proofs.Alone.{alone_elsewhere}
use Rattle.laws_linear.specs.Form.{Form, eval, fold_form}
use Rattle.laws_linear.proofs.Eval.{zero_times, eval_equal, eval_minus}
use Rattle.laws_linear.proofs.Fold.{fold_equal, fold_without, fold_sound}
use Rattle.rules_problem.specs.declared.Term.{Term}
use Rattle.rules_problem.specs.Lookup.{kind_at}
use Rattle.rules_problem.specs.Problem.{Pair}
use Rattle.laws_valuation.specs.Valuation.{lin}
use Rattle.rules_run.specs.Row.{Row, Table, TERMS, COLUMNS, constant, column, cell}
use Rattle.rules_run.specs.Build.{alone}
use Rattle.rules_run.specs.Merge.{State}
use Rattle.laws_invariant.specs.Rows.{EqualCells, solved_form}
use Rattle.laws_invariant.specs.Invariant.{OneToOne, Equates, Unsolved, Lower, is_unknown, is_solved, count, Invariant}
use Rattle.laws_invariant.proofs.Count.{count_one_more}
use Rattle.laws_invariant.proofs.Keeps.{folds_equal}
use Rattle.laws_invariant.proofs.Lin.{lin_congruent, lin_commutes, fold_linear}
use Rattle.laws_invariant.proofs.Meets.{Differs}
use Rattle.laws_invariant.proofs.Pivot.{Pivot, pivot_highest}
use Rattle.laws_invariant.proofs.Solved.{unsolved_not_counted, lower_counted, known_not_counted}
use Rattle.laws_invariant.proofs.SolvedForm.{solved_there, solved_nonzero, solved_value}
use Rattle.laws_invariant.proofs.Steps.{Solves}
use Rattle.laws_invariant.proofs.Units.{column_below, constant_apart}

-- The difference of two rows with equal values has the value 0.
pub difference_value : (table : Table) (t u : ℕ) (d : Row) (v : ℕ → ℚ) → Differs table t u d → eval TERMS (cell table t) v ≡ eval TERMS (cell table u) v → eval TERMS (column d) v ≡ zero_ℚ
difference_value table t u d v differs same =
    eval_equal TERMS (λ c inside. differs.each c (column_below inside)) (λ c inside nonzero. refl)
    ∙ eval_minus TERMS (cell table t) (cell table u) v
    ∙ combined ℚ-ring one_ℚ same (ring ℚ-ring (eval TERMS (cell table t) v ∷ eval TERMS (cell table u) v ∷ []) (search readsℚ depth 20) refl)

-- Where a fold leaves a number, there was one, or one came in with the solved form.
fold_nonzero : (p : ℕ) (form r : Form) (c : ℕ) → fold_form p form r c ≢ zero_ℚ → (c ≢ p) × ((r c ≢ zero_ℚ) ⊎ ((r p ≢ zero_ℚ) × (form c ≢ zero_ℚ)))
unfolding fold_form
fold_nonzero p form r c nonzero =
    grind (arith, plus_zero, times_zero, zero_times, ℚ-discrete (r c) zero_ℚ, ℚ-discrete (r p) zero_ℚ, ℚ-discrete (form c) zero_ℚ)

module _ (rank : ℕ → ℕ) (terms : List Term) (inForce met : List Pair) (state after : State) (t u p : ℕ) (d : Row)
    (one-to-one : OneToOne rank) (inv : Invariant rank terms inForce met state)
    (differs : Differs state.table t u d) (pivot : Pivot rank TERMS d p) (solves : Solves p d state after) where
  abbrev form : Form
  form = solved_form p (column d)

  p_column : p < COLUMNS
  p_column = column_below (omega (arith, pivot.below))

  -- F3: rows that are equal stay equal.
  pub solve_equal : (i j : ℕ) → EqualCells state.table i j → EqualCells after.table i j
  solve_equal = folds_equal p form state.table after.table p_column solves.folds

  -- A column of the difference that is not 0 is that of an unsolved unknown.
  difference_unsolved : (c : ℕ) → c < TERMS → column d c ≢ zero_ℚ → Unsolved terms state.table c
  difference_unsolved c inside nonzero = by (ℚ-discrete (cell state.table t c) zero_ℚ) (ℚ-discrete (cell state.table u c) zero_ℚ)
    where
      by : Dec (cell state.table t c ≡ zero_ℚ) → Dec (cell state.table u c ≡ zero_ℚ) → Unsolved terms state.table c
      by (no there) second = inv.columns t c inside there
      by (yes none) (no there) = inv.columns u c inside there
      by (yes none) (yes empty) = absurd (nonzero (differs.each c (column_below (omega arith)) ∙ ap₂ ◌-ℚ◌ none empty ∙ ring ℚ-ring [] (search readsℚ depth 20) refl))

  -- A column of the solved form that is not 0 is that of an unsolved unknown of lower rank.
  form_unsolved : (c : ℕ) → c < TERMS → form c ≢ zero_ℚ → Unsolved terms state.table c × (rank c < rank p)
  unfolding OneToOne
  form_unsolved c inside nonzero =
      let (other, there) = solved_nonzero p (column d) c nonzero in
      (difference_unsolved c inside there, pivot_highest rank d TERMS p one-to-one pivot c inside other there)

  -- where a row has a number after the fold
  after_nonzero : (i c : ℕ) → c < TERMS → cell after.table i c ≢ zero_ℚ → (c ≢ p) × ((cell state.table i c ≢ zero_ℚ) ⊎ ((cell state.table i p ≢ zero_ℚ) × (form c ≢ zero_ℚ)))
  after_nonzero i c inside nonzero = fold_nonzero p form (cell state.table i) c (λ none. nonzero (solves.folds i c (column_below (omega arith)) ∙ none))

  -- F4: the other unsolved unknowns stay unsolved, the other solved ones stay solved, and p is solved.
  stays_unsolved : (c : ℕ) → c ≢ p → Unsolved terms state.table c → Unsolved terms after.table c
  stays_unsolved c other unsolved = record {
    below = unsolved.below;
    unknown = unsolved.unknown;
    itself = λ k inside.
        solves.folds c k inside
        ∙ fold_without p form (cell state.table c) k (unsolved.itself p p_column ∙ alone_elsewhere (λ same. other (sym same)) one_ℚ)
        ∙ unsolved.itself k inside;
  }

  stays_solved : (c : ℕ) → Lower rank state.table c → Lower rank after.table c
  unfolding Lower
  stays_solved c lower k inside nonzero = by (after_nonzero c k inside nonzero).1
    where
      by : (cell state.table c k ≢ zero_ℚ) ⊎ ((cell state.table c p ≢ zero_ℚ) × (form k ≢ zero_ℚ)) → rank k < rank c
      by (inl there) = lower k inside there
      by (inr (there, came)) = let first = (form_unsolved k inside came).1 in let second = lower p pivot.below there in omega arith

  now_solved : Lower rank after.table p
  unfolding Lower
  now_solved k inside nonzero = by (after_nonzero p k inside nonzero).0 (after_nonzero p k inside nonzero).1
    where
      by : k ≢ p → (cell state.table p k ≢ zero_ℚ) ⊎ ((cell state.table p p ≢ zero_ℚ) × (form k ≢ zero_ℚ)) → rank k < rank p
      by other (inl there) = absurd (there ((difference_unsolved p pivot.below pivot.nonzero).itself k (column_below (omega arith)) ∙ alone_elsewhere other one_ℚ))
      by other (inr (there, came)) = (form_unsolved k inside came).1

  -- I1
  solve_columns : (i c : ℕ) → c < TERMS → cell after.table i c ≢ zero_ℚ → Unsolved terms after.table c
  solve_columns i c inside nonzero = by (after_nonzero i c inside nonzero).0 (after_nonzero i c inside nonzero).1
    where
      by : c ≢ p → (cell state.table i c ≢ zero_ℚ) ⊎ ((cell state.table i p ≢ zero_ℚ) × (form c ≢ zero_ℚ)) → Unsolved terms after.table c
      by other (inl there) = stays_unsolved c other (inv.columns i c inside there)
      by other (inr (there, came)) = stays_unsolved c other (form_unsolved c inside came).0

  -- I2
  solve_triangular : (c : ℕ) → c < length terms → is_unknown (kind_at terms c) ≡ true → Unsolved terms after.table c ⊎ Lower rank after.table c
  solve_triangular c below unknown = by (ℕ_discrete c p) (inv.triangular c below unknown)
    where
      by : Dec (c ≡ p) → Unsolved terms state.table c ⊎ Lower rank state.table c → Unsolved terms after.table c ⊎ Lower rank after.table c
      by (yes same) before = inr (rw same now_solved)
      by (no other) (inl unsolved) = inl (stays_unsolved c other unsolved)
      by (no other) (inr lower) = inr (stays_solved c lower)

  -- I3
  solve_arithmetic : (i c : ℕ) → i < length terms → c < COLUMNS → cell after.table i c ≡ lin (kind_at terms i) (λ j. cell after.table j c) (alone constant one_ℚ c) (cell after.table i c)
  solve_arithmetic i c below inside =
      let kind = kind_at terms i in
      let old = state.table in
      solves.folds i c inside
      ∙ fold_equal p c form form (cell old i) (λ k. lin kind (λ j. cell old j k) (alone constant one_ℚ k) (cell old i k)) refl (inv.arithmetic i p below p_column) (inv.arithmetic i c below inside)
      ∙ lin_commutes (fold_linear p form c) kind (cell old) (alone constant one_ℚ) (cell old i)
      ∙ lin_congruent kind _ _ _ _ (λ j input. sym (solves.folds j c inside))
      ∙ ap₂ (lin kind (λ j. cell after.table j c)) (fold_without p form (alone constant one_ℚ) c (alone_elsewhere (constant_apart pivot.below) one_ℚ)) (sym (solves.folds i c inside))

  -- I4
  solve_sound : (v : ℕ → ℚ) → v t ≡ v u → ((i : ℕ) → i < length terms → v i ≡ eval TERMS (cell state.table i) v) → t < length terms → u < length terms → (i : ℕ) → i < length terms → v i ≡ eval TERMS (cell after.table i) v
  solve_sound v same sound t-below u-below i below =
      sound i below
      ∙ sym (eval_equal TERMS (λ c inside. solves.folds i c (column_below inside)) (λ c inside nonzero. refl)
      ∙ fold_sound TERMS p form (cell state.table i) v pivot.below (solved_there p (column d))
      (solved_value p (column d) pivot.nonzero TERMS v pivot.below
      (difference_value state.table t u d v differs (sym (sound t t-below) ∙ same ∙ sound u u-below))))

  -- I6
  solve_counted : length terms ≤ TERMS → after.solved ≡ count (length terms) (is_solved terms after.table)
  solve_counted fits =
      solves.counts ∙ ap suc inv.counted
      ∙ sym (count_one_more (length terms) p (is_solved terms state.table) (is_solved terms after.table) now.below
      (unsolved_not_counted terms state.table p pivot.below now)
      (lower_counted rank terms after.table p pivot.below now.unknown now_solved)
      (λ c below other. by c (omega arith) other (is_unknown (kind_at terms c)) refl (inv.triangular c below)))
    where
      now : Unsolved terms state.table p
      now = difference_unsolved p pivot.below pivot.nonzero

      by : (c : ℕ) → c < TERMS → c ≢ p → (b : Bool) → is_unknown (kind_at terms c) ≡ b → (is_unknown (kind_at terms c) ≡ true → Unsolved terms state.table c ⊎ Lower rank state.table c) → is_solved terms after.table c ≡ is_solved terms state.table c
      by c inside other false known before = known_not_counted terms after.table c known ∙ sym (known_not_counted terms state.table c known)
      by c inside other true unknown before = known_state (before unknown)
        where
          known_state : Unsolved terms state.table c ⊎ Lower rank state.table c → is_solved terms after.table c ≡ is_solved terms state.table c
          known_state (inl unsolved) = unsolved_not_counted terms after.table c inside (stays_unsolved c other unsolved) ∙ sym (unsolved_not_counted terms state.table c inside unsolved)
          known_state (inr lower) = lower_counted rank terms after.table c inside unknown (stays_solved c lower) ∙ sym (lower_counted rank terms state.table c inside unknown lower)

  -- Solving keeps the invariant, where every valuation that meets the assumptions in force gives t and u the same number.
  pub solve_invariant : length terms ≤ TERMS → t < length terms → u < length terms → Equates terms inForce t u → Invariant rank terms inForce met after
  unfolding Equates
  solve_invariant fits t-below u-below equates = record {
    sized = solves.sized ∙ inv.sized;
    columns = solve_columns;
    triangular = solve_triangular;
    arithmetic = solve_arithmetic;
    sound = λ v valued meets. solve_sound v (equates v valued meets) (inv.sound v valued meets) t-below u-below;
    equal = λ pair member. solve_equal pair.left pair.right (inv.equal pair member);
    counted = solve_counted fits;
  }
