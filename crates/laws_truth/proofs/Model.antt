-- A point that keeps different rows different gives a model: values for the terms that meet every assumption.
-- Main results: `equal_values`, `model_valued`, `model_meets` (A3). Assume nothing.
use mathlib.Core.Path.{◌≡◌, refl, ap, ◌∙◌}
use mathlib.Core.Logic.{◌↔◌, ⊎_elim}
use mathlib.Core.List.{List}
use Prim.Native.Nat.{ℕ, ◌≤◌, ◌<◌}
use native.Mathlib.Omega.{arith}
use lib.ListN.{length}
use Rattle.fraction.specs.Exact.{ℚ, one_ℚ}
use Rattle.laws_linear.specs.Apart.{Separates}
use Rattle.laws_linear.proofs.Differ.{same_or_differ}
use Rattle.laws_linear.proofs.Eval.{eval_equal}
use Rattle.rules_problem.specs.declared.Term.{Term}
use Rattle.rules_problem.specs.Lookup.{inputs_of, kind_at}
use Rattle.rules_problem.specs.Problem.{Pair}
use Rattle.laws_valuation.specs.Valuation.{lin, Valuation}
use Rattle.rules_run.specs.Row.{TERMS, COLUMNS, Table, constant, cell}
use Rattle.rules_run.specs.Build.{alone}
use Rattle.rules_run.specs.Merge.{State}
use Rattle.laws_invariant.specs.Rows.{EqualCells, ClosedTable}
use Rattle.laws_invariant.specs.Invariant.{Shaped, ValuesMeet, Completed}
use Rattle.laws_valuation.specs.Written.{Written}
use Rattle.laws_valuation.proofs.Readings.{inputs_below}
use Rattle.laws_invariant.proofs.Lin.{lin_commutes, eval_linear}
use Rattle.laws_invariant.proofs.Rows.{values_equal_places}
use Rattle.laws_invariant.proofs.Units.{column_below, constant_value}
use Rattle.laws_truth.specs.Sums.{value_at}

-- Equal rows have equal values at every point.
pub equal_rows_values : (table : Table) (a : ℕ → ℚ) (t u : ℕ) → EqualCells table t u → value_at table a t ≡ value_at table a u
unfolding value_at
equal_rows_values table a t u same = eval_equal TERMS (λ c inside. same c (column_below inside)) (λ c inside nonzero. refl)

inside_columns : {c : ℕ} → c < COLUMNS → c ≤ TERMS
inside_columns below = omega arith

-- Where the point keeps different rows different, equal values are those of equal rows.
pub equal_values : (n : ℕ) (table : Table) (a : ℕ → ℚ) → Separates TERMS n (cell table) a → (t u : ℕ) → t < n → u < n → (value_at table a t ≡ value_at table a u) ↔ EqualCells table t u
unfolding Separates value_at
equal_values n table a apart t u t-below u-below = (
  λ equal. ⊎_elim (λ same c below. same c (inside_columns below)) (λ differ. absurd (apart t u t-below u-below differ equal)) (same_or_differ TERMS (cell table t) (cell table u)),
  equal_rows_values table a t u,
)

module _ {rank : ℕ → ℕ} {terms : List Term} {inForce met : List Pair} {state : State} (shaped : Shaped terms) (complete : Completed rank terms inForce met state) (a : ℕ → ℚ) where
  -- A3, model: at a point that keeps different rows different the values of the rows are a valuation: sums, gains and constants by
  -- I3; lookups whose inputs have equal values have inputs with equal rows there, so equal rows, since the table is closed.
  pub model_valued : Separates TERMS (length terms) (cell state.table) a → Valuation terms (value_at state.table a)
  unfolding value_at ClosedTable
  model_valued apart = record {
    obeys = λ t below.
        eval_equal TERMS (λ c inside. complete.invariant.arithmetic t c below (column_below inside)) (λ c inside nonzero. refl)
        ∙ lin_commutes (eval_linear TERMS a) (kind_at terms t) (cell state.table) (alone constant one_ℚ) (cell state.table t)
        ∙ ap (λ unit. lin (kind_at terms t) (value_at state.table a) unit (value_at state.table a t)) (constant_value a);
    congruent = λ i j before below similar inputs.
        equal_rows_values state.table a i j (complete.closed i j before below similar
        (values_equal_places state.table (value_at state.table a) (inputs_of (kind_at terms i)) (inputs_of (kind_at terms j))
        (λ t u first second. (equal_values (length terms) state.table a apart t u (inputs_below terms written i (omega arith) t first) (inputs_below terms written j below u second)).0)
        inputs));
  }
    where
      written : Written terms
      written = record { earlier = shaped.earlier }

  -- It meets every assumption that has been met, at any point (I5).
  pub model_meets : ValuesMeet (value_at state.table a) met
  unfolding ValuesMeet
  model_meets pair member = equal_rows_values state.table a pair.left pair.right (complete.invariant.equal pair member)
