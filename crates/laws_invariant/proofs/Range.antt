-- Build, difference and fold stop only with a number outside the limits.
-- Main results: `Ranged`, `difference_ranged`, `solve_ranged`, `built_ranged`. Assume nothing.
use mathlib.Core.Path.{◌≡◌, refl}
use mathlib.Core.Bool.{Bool, true, false, cond}
use mathlib.Core.List.{List, [], ◌∷◌}
use Prim.Native.Nat.{ℕ}
use lib.ListN.{length}
use lib.Dec.{eqb}
use Rattle.fraction.specs.Exact.{ℚ}
use Rattle.fraction.specs.Limits.{tested, Outside, plus, minus, times, over}
use Rattle.answer.specs.Refusals.{number_of}
use Rattle.answer.specs.declared.Reason.{Reason}
use Rattle.fraction.specs.Made.{Made, made, stopped}
use Rattle.fraction.proofs.Answers.{Answers, if_made, if_stopped, answers_bind, answers_tab}
use Rattle.fraction.proofs.Bounded.{tested_stopped}
use Rattle.rules_problem.specs.declared.Kind.{Kind}
use Rattle.rules_problem.specs.declared.Kind.TheVariants.{Variable, Constant, Gain, Sum, Difference, Lookup1, Lookup2, Lookup3}
use Rattle.rules_problem.specs.declared.Term.{Term}
use Rattle.rules_run.specs.Row.{Row, Table, COLUMNS, row}
use Rattle.rules_run.specs.Build.{built_column, built}
use Rattle.rules_run.specs.Merge.{State, difference, solved_column, folded_column, folded, solve}

-- A step that stops only with a number outside the limits.
abbrev pub Ranged {ℓ} : {A : Type ℓ} → Made Reason A → Type ℓ
Ranged step = Answers (λ a. Unit) (λ why. Outside (number_of why)) step

tested_ranged : (q : ℚ) → Ranged (tested q)
tested_ranged q = by (tested q) refl
  where
    by : (step : Made Reason ℚ) → tested q ≡ step → Ranged step
    by (made c) h = if_made tt
    by (stopped why) h = if_stopped (tested_stopped q why h).1

-- Of two steps one or the other.
pub answers_cond : {R A : Type 0} {P : A → Type 0} {S : R → Type 0} (b : Bool) {step other : Made R A} → Answers P S step → Answers P S other → Answers P S (cond b step other)
answers_cond true first second = first
answers_cond false first second = second

row_ranged : {g : ℕ → Made Reason ℚ} → ((c : ℕ) → Ranged (g c)) → Ranged (row g)
unfolding row
row_ranged each = answers_tab each COLUMNS 0

pub difference_ranged : (r s : Row) → Ranged (difference r s)
unfolding difference minus
difference_ranged r s = row_ranged (λ c. tested_ranged _)

pub solve_ranged : (p : ℕ) (d : Row) (state : State) → Ranged (solve p d state)
unfolding solve folded solved_column folded_column over times plus
solve_ranged p d state =
    answers_bind (row_ranged (λ c. answers_cond (eqb c p) (if_made tt) (answers_bind (tested_ranged _) (λ q made. if_made tt)))) (λ form made.
    answers_bind (answers_tab (λ t. row_ranged (λ c. answers_cond (eqb c p) (if_made tt) (answers_bind (tested_ranged _) (λ gained made. tested_ranged _)))) (length state.table) 0) (λ table made.
    if_made tt))

column_ranged : (table : Table) (own : ℕ) (kind : Kind) (c : ℕ) → Ranged (built_column table own kind c)
unfolding built_column times plus minus
column_ranged table own (Variable symbol) c = if_made tt
column_ranged table own (Constant held) c = if_made tt
column_ranged table own (Gain factor input) c = tested_ranged _
column_ranged table own (Sum left right) c = tested_ranged _
column_ranged table own (Difference left right) c = tested_ranged _
column_ranged table own (Lookup1 symbol input) c = if_made tt
column_ranged table own (Lookup2 symbol first second) c = if_made tt
column_ranged table own (Lookup3 symbol first second third) c = if_made tt

pub built_ranged : (terms : List Term) (table : Table) → Ranged (built terms table)
unfolding built
built_ranged [] table = if_made tt
built_ranged (term ∷ terms) table = answers_bind (row_ranged (column_ranged table (length table) term.kind)) (λ r made. built_ranged terms _)
