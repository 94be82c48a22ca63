-- The run leaves every fraction of its table within the limits.
-- Main definition: `Limited`. Main result: `run_limited`. Assume nothing.
use mathlib.Core.Path.{◌≡◌, refl}
use mathlib.Core.Bool.{true}
use mathlib.Core.List.{List, [], ◌∷◌, ◌++◌}
use mathlib.Core.Option.{Option, some, none}
use Prim.Native.Nat.{ℕ, zero, suc, ◌+◌, ◌*◌, ◌^◌, ◌<◌}
use native.Mathlib.Decide.{dec_lt, ℕ_discrete}
use native.Mathlib.Nat.{zero-add}
use native.Mathlib.Omega.{arith}
use lib.Dec.{eqb}
use lib.Pow.{pow-lt, pow_pos}
use lib.ListN.{length, length-append, get_or-append}
use lib.Seq.{get_or-append_seam}
use Rattle.fraction.specs.declared.Scaled.{Scaled}
use Rattle.fraction.specs.InRecord.{InRecord}
use Rattle.fraction.specs.Exact.{ℚ, whole, zero_ℚ, one_ℚ, worth, eq_ℚ}
use Rattle.fraction.specs.Limits.{limit, within, tested, plus, minus, times}
use Rattle.answer.specs.declared.Reason.{Reason}
use Rattle.fraction.specs.Made.{Made, made, stopped, ◌>>=◌}
use Rattle.fraction.proofs.Answers.{Answers, if_made, if_stopped, answers_made, answers_with, answers_bind, answers_because, answers_tab}
use Rattle.fraction.proofs.Bounded.{tested_made, frac_within}
use Rattle.fraction.proofs.Making.{tab_length, tab_member}
use Rattle.rules_problem.specs.declared.Kind.{Kind}
use Rattle.rules_problem.specs.declared.Kind.TheVariants.{Variable, Constant, Gain, Sum, Difference, Lookup1, Lookup2, Lookup3}
use Rattle.rules_problem.specs.declared.Term.{Term}
use Rattle.rules_problem.specs.Lookup.{kind_at}
use Rattle.rules_problem.specs.Record.{Fields, scaled}
use Rattle.rules_problem.specs.Problem.{Pair, Problem, decoded}
use Rattle.rules_problem.proofs.Holding.{terms_count, term_there}
use Rattle.rules_problem.proofs.Recorded.{Recorded, variable, constant, gain, sum, difference, lookup1, lookup2, lookup3, term_recorded}
use Rattle.rules_problem.proofs.Widths.{scaled_in_record}
use Rattle.rules_run.specs.Row.{Row, Table, TERMS, COLUMNS, constant as constantColumn, column, row_of, cell, row}
use Rattle.rules_run.specs.Build.{alone, built_column, built}
use Rattle.rules_run.specs.Merge.{State, Stop, refused_for, pivot, folded_column, folded, solve, settle, merge}
use Rattle.rules_run.specs.Close.{due, close_for, close}
use Rattle.rules_run.specs.Run.{Ranking, ends, assume, begin, run}
use Rattle.laws_invariant.proofs.Range.{answers_cond}
use Rattle.laws_invariant.proofs.Steps.{row_made, cell_past}

-- each fraction of a row is within the limits,
pub record LimitedRow (r : Row) : Type 0 where
  pub each : (c : ℕ) → c < COLUMNS → within (column r c) ≡ true

-- and each of a table, past the last row too, where all are 0
pub record Limited (table : Table) : Type 0 where
  pub each : (t c : ℕ) → c < COLUMNS → within (cell table t c) ≡ true

-- What a step makes has the property, whatever it stops with.
abbrev Makes : {R A : Type 0} → (P : A → Type 0) → Made R A → Type 0
Makes P step = Answers P (λ why. Unit) step

abbrev MakesLimited : {R : Type 0} → Made R State → Type 0
MakesLimited step = Makes (λ state. Limited state.table) step

anything : {R A : Type 0} (step : Made R A) → Makes (λ a. Unit) step
anything (made a) = if_made tt
anything (stopped why) = if_stopped tt

zero_limited : within zero_ℚ ≡ true
unfolding within zero_ℚ whole limit
zero_limited = refl

one_limited : within one_ℚ ≡ true
unfolding within one_ℚ whole limit
one_limited = refl

alone_limited : (only c : ℕ) (q : ℚ) → within q ≡ true → within (alone only q c) ≡ true
unfolding alone
alone_limited only c q inside = grind (arith, zero_limited)

-- "mantissa 16 (..), shift 4": a constant lies within the limits, in lowest terms too.
recorded_limited : (s : Scaled) → InRecord s → within (worth s) ≡ true
unfolding worth limit
recorded_limited s recorded =
    let below : 2 ^ s.shift < 2 ^ 16 = pow-lt {j = 16} recorded.shift in
    frac_within s.mantissa (2 ^ s.shift) (pow_pos s.shift) (omega (arith, recorded.mantissa)) (omega arith)

-- the constant of a term, if it is one, lies within the limits
ConstantLimited : Kind → Type 0
ConstantLimited kind = (held : Scaled) → kind ≡ Constant held → within (worth held) ≡ true

kind_limited : {own : ℕ} {f : Fields} {kind : Kind} → InRecord (scaled f) → Recorded own f kind → ConstantLimited kind
unfolding ConstantLimited
kind_limited recorded variable held same = cc
kind_limited recorded constant held same = cc (recorded_limited _ recorded)
kind_limited recorded (gain below) held same = cc
kind_limited recorded (sum below) held same = cc
kind_limited recorded (difference below) held same = cc
kind_limited recorded (lookup1 below) held same = cc
kind_limited recorded (lookup2 below) held same = cc
kind_limited recorded (lookup3 below) held same = cc

-- What is tested lies within the limits.
tested_limited : (q : ℚ) → Makes (λ c. within c ≡ true) (tested q)
tested_limited q = answers_with (anything _) (λ c h. (tested_made q c h).1)

row_limited : {g : ℕ → Made Reason ℚ} → ((c : ℕ) → Makes (λ q. within q ≡ true) (g c)) → Makes LimitedRow (row g)
unfolding row
row_limited {g} all = answers_with (answers_tab all COLUMNS 0) (λ r h. record { each = λ c below. answers_made (all c) (row_made g r h c below) })

-- Step 1 of the run.
column_limited : (table : Table) (own : ℕ) (kind : Kind) → ConstantLimited kind → (c : ℕ) → Makes (λ q. within q ≡ true) (built_column table own kind c)
unfolding built_column times plus minus ConstantLimited
column_limited table own (Variable symbol) held c = if_made (alone_limited own c one_ℚ one_limited)
column_limited table own (Constant fraction) held c = if_made (alone_limited constantColumn c _ (held fraction refl))
column_limited table own (Gain factor input) held c = tested_limited _
column_limited table own (Sum left right) held c = tested_limited _
column_limited table own (Difference left right) held c = tested_limited _
column_limited table own (Lookup1 symbol input) held c = if_made (alone_limited own c one_ℚ one_limited)
column_limited table own (Lookup2 symbol first second) held c = if_made (alone_limited own c one_ℚ one_limited)
column_limited table own (Lookup3 symbol first second third) held c = if_made (alone_limited own c one_ℚ one_limited)

one_more : (table : Table) (r : Row) → Limited table → LimitedRow r → Limited (table ++ r ∷ [])
unfolding cell row_of
one_more table r before last = record { each = λ t c below. by t c below (dec_lt t (length table)) (ℕ_discrete t (length table)) }
  where
    by : (t c : ℕ) → c < COLUMNS → Dec (t < length table) → Dec (t ≡ length table) → within (cell (table ++ r ∷ []) t c) ≡ true
    by t c below (yes early) same = rw (get_or-append table (r ∷ []) [] t early) (before.each t c below)
    by t c below (no late) (yes seam) = rw (seam, get_or-append_seam table r [] []) (last.each c below)
    by t c below (no late) (no past) = rw (cell_past (table ++ r ∷ []) t c (simp length-append (omega arith))) zero_limited

built_limited : (terms : List Term) (table : Table) → ((t : ℕ) → t < length terms → ConstantLimited (kind_at terms t)) → Limited table → Makes Limited (built terms table)
unfolding built kind_at
built_limited [] table held before = if_made before
built_limited (term ∷ terms) table held before =
    answers_bind (row_limited (column_limited table (length table) term.kind (held 0 (omega arith))))
    (λ r last. built_limited terms (table ++ r ∷ []) (λ t below. held (suc t) (omega arith)) (one_more table r before last))

-- A fold tests what it leaves.
fold_limited : (p : ℕ) (form r : Row) (c : ℕ) → Makes (λ q. within q ≡ true) (folded_column p form r c)
unfolding folded_column times plus
fold_limited p form r c = answers_cond (eqb c p) (if_made zero_limited) (answers_bind (tested_limited _) (λ gained inside. tested_limited _))

folded_limited : (p : ℕ) (form : Row) (table : Table) → Makes Limited (folded p form table)
unfolding folded cell row_of
folded_limited p form table = answers_with (answers_tab (λ t. row_limited (fold_limited p form (row_of table t))) (length table) 0) (λ after h. record { each = λ t c below. by after h t c below (dec_lt t (length table)) })
  where
    by : (after : Table) → folded p form table ≡ made after → (t c : ℕ) → c < COLUMNS → Dec (t < length table) → within (cell after t c) ≡ true
    by after h t c below (yes early) =
        (answers_made (row_limited (fold_limited p form (row_of table t))) (rw zero-add at (tab_member _ (length table) 0 after h [] t early))).each c below
    by after h t c below (no late) =
        let size = tab_length _ (length table) 0 after h in
        rw (cell_past after t c (omega arith)) zero_limited

module _ (rank : ℕ → ℕ) where
  settle_limited : (d : Row) (state : State) → Limited state.table → (o : Option ℕ) → MakesLimited (settle d state o)
  unfolding settle solve
  settle_limited d state before none = answers_cond (eq_ℚ (column d constantColumn) zero_ℚ) (if_made before) (if_stopped tt)
  settle_limited d state before (some p) =
      answers_because refused_for
      (answers_bind (anything _) (λ form any. answers_bind (folded_limited p form state.table) (λ table inside. if_made inside)))
      (λ why any. tt)

  merge_limited : (t u : ℕ) (state : State) → Limited state.table → MakesLimited (merge rank t u state)
  unfolding merge
  merge_limited t u state before =
      answers_bind (anything _) (λ d any. settle_limited d state before (pivot rank TERMS d))

  close_limited : (terms : List Term) (turns : ℕ) (state : State) → Limited state.table → MakesLimited (close_for turns rank terms state)
  unfolding close_for
  close_limited terms zero state before = if_made before
  close_limited terms (suc turns) state before = by (due terms state.table) (close_limited terms turns)
    where
      by : (o : Option Pair) → ((next : State) → Limited next.table → MakesLimited (close_for turns rank terms next))
          → MakesLimited {R = Stop} (elim o [ none ↦ made state | some pair ↦ merge rank pair.left pair.right state >>= close_for turns rank terms ])
      by none later = if_made before
      by (some pair) later = answers_bind (merge_limited pair.left pair.right state before) later

  assume_limited : (terms : List Term) (place : ℕ) (pairs : List Pair) (state : State) → Limited state.table → MakesLimited (assume rank terms place pairs state)
  unfolding assume close
  assume_limited terms place [] state before = if_made before
  assume_limited terms place (pair ∷ pairs) state before =
      answers_bind
      (answers_because (ends place) (answers_bind (merge_limited pair.left pair.right state before) (close_limited terms (suc (length terms)))) (λ why any. tt))
      (assume_limited terms (suc place) pairs)

-- A run of a problem that was decoded leaves a table within the limits.
pub run_limited : (ranking : Ranking) (bytes : List ℕ) (problem : Problem) → decoded bytes ≡ made problem → (state : State) → run ranking problem ≡ made state → Limited state.table
unfolding run begin close kind_at
run_limited ranking bytes problem read state h = answers_made whole_run h
  where
    terms : List Term
    terms = problem.terms

    held : (t : ℕ) → t < length terms → ConstantLimited (kind_at terms t)
    held t below =
        kind_limited (scaled_in_record bytes (32 + 64 * t)) (term_recorded bytes t _ (term_there bytes problem read t (omega (arith, terms_count bytes problem read)) _))

    empty : Limited []
    empty = record { each = λ t c below. rw (cell_past [] t c (omega arith)) zero_limited }

    whole_run : MakesLimited (run ranking problem)
    whole_run =
        answers_bind
        (answers_because (ends 0)
        (answers_bind (answers_because refused_for (built_limited terms [] held empty) (λ why any. tt)) (λ table before. close_limited (ranking terms) terms (suc (length terms)) _ before))
        (λ why any. tt))
        (assume_limited (ranking terms) terms 1 problem.pairs)
