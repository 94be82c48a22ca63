-- Build gives the invariant, with no assumption in force and none met.
-- Main results: `built_column_lem`, `built_rows`, `build_invariant`. Assume nothing.
use mathlib.Core.Path.{◌≡◌, refl, sym, ap, ap₂, ◌∙◌, subst}
use mathlib.Core.Logic.{◌≢◌, inl}
use mathlib.Core.Bool.{Bool, true, false}
use mathlib.Core.List.Memᴰ
use mathlib.Core.List.{List, [], ◌∷◌, ◌++◌, append-nil}
use Prim.Native.Nat.{ℕ, zero, suc, ◌+◌, ◌<◌}
use native.Mathlib.Decide.{dec_lt, ℕ_discrete}
use native.Mathlib.Omega.{arith}
use lib.ListN.{length, length-append, get_or-append}
use lib.Seq.{append_snoc, get_or-append_seam}
use Rattle.fraction.specs.Exact.{ℚ, zero_ℚ, one_ℚ, ◌*ℚ◌}
use Rattle.fraction.specs.Made.{made}
use Rattle.fraction.proofs.Field.{times_one, times_zero}
use Rattle.fraction.proofs.Making.{bind_made}
use Rattle.laws_linear.proofs.Alone.{alone_elsewhere}
use Rattle.rules_problem.specs.declared.Kind.{Kind}
use Rattle.rules_problem.specs.declared.Term.{Term}
use Rattle.rules_problem.specs.Lookup.{kind_at}
use Rattle.laws_linear.specs.Form.{eval}
use Rattle.laws_linear.proofs.Eval.{eval_equal}
use Rattle.laws_valuation.specs.Valuation.{lin, Valuation}
use Rattle.rules_run.specs.Row.{TERMS, COLUMNS, Row, Table, constant, column, row_of, cell, row}
use Rattle.rules_run.specs.Build.{alone, built_column, built}
use Rattle.laws_invariant.specs.Invariant.{Shaped, Unsolved, is_unknown, is_solved, count, Invariant}
use Rattle.laws_invariant.proofs.Count.{count_none}
use Rattle.laws_invariant.proofs.Lin.{lin_congruent, lin_unknown, lin_own, lin_commutes, eval_linear, zero_linear}
use Rattle.laws_linear.proofs.Upto.{last_or_before}
use Rattle.laws_invariant.proofs.Solved.{unsolved_not_counted, known_not_counted}
use Rattle.laws_invariant.proofs.Steps.{plus_is, minus_is, times_is, row_made, cell_past}
use Rattle.laws_invariant.proofs.Units.{alone_value, constant_value, column_below, constant_apart}

-- A constant's column is the constant times the unit's.
constant_column : (q : ℚ) (c : ℕ) → alone constant q c ≡ q *ℚ alone constant one_ℚ c
unfolding alone
constant_column q c = grind (arith, times_one q, times_zero q)

-- A built column that is made is what the term makes of its inputs' columns.
pub built_column_lem : (table : Table) (own : ℕ) (kind : Kind) (c : ℕ) (q : ℚ) → built_column table own kind c ≡ made q → q ≡ lin kind (λ i. cell table i c) (alone constant one_ℚ c) (alone own one_ℚ c)
unfolding built_column lin
built_column_lem table own kind c q h = grind (arith, plus_is, minus_is, times_is, constant_column)

-- Each row is what its term makes of its inputs' rows, and an unknown's is 1 at itself.
pub record Rows (terms : List Term) (table : Table) : Type 0 where
  pub all : (t c : ℕ) → t < length table → c < COLUMNS → cell table t c ≡ lin (kind_at terms t) (λ i. cell table i c) (alone constant one_ℚ c) (alone t one_ℚ c)

-- rows before a row put at the end stand
cell_before : (table : Table) (r : Row) (t c : ℕ) → t < length table → cell (table ++ r ∷ []) t c ≡ cell table t c
unfolding cell row_of
cell_before table r t c below = ap (λ x. column x c) (get_or-append table (r ∷ []) [] t below)

cell_last : (table : Table) (r : Row) (c : ℕ) → cell (table ++ r ∷ []) (length table) c ≡ column r c
unfolding cell row_of
cell_last table r c = ap (λ x. column x c) (get_or-append_seam table r [] [])

kind_at_seam : (done : List Term) (term : Term) (rest : List Term) → kind_at (done ++ term ∷ rest) (length done) ≡ term.kind
unfolding kind_at
kind_at_seam done term rest = ap (λ t. t.kind) (get_or-append_seam done term rest _)

module _ (terms : List Term) (shaped : Shaped terms) where
  -- one more row
  next_row : (kind : Kind) (table : Table) (r : Row) → length table < length terms → kind_at terms (length table) ≡ kind → Rows terms table → row (built_column table (length table) kind) ≡ made r → Rows terms (table ++ r ∷ [])
  next_row kind table r within here rows h = record { all = λ t c early below. grown c below t (omega (arith, simp length-append at early)) }
    where
      made_before : (c : ℕ) → c < COLUMNS → (t : ℕ) → t < suc (length table) → cell (table ++ r ∷ []) t c ≡ lin (kind_at terms t) (λ i. cell table i c) (alone constant one_ℚ c) (alone t one_ℚ c)
      made_before c below = last_or_before (length table)
          (cell_last table r c ∙ built_column_lem table (length table) kind c (column r c) (row_made _ r h c below) ∙ ap (λ k. lin k (λ i. cell table i c) (alone constant one_ℚ c) (alone (length table) one_ℚ c)) (sym here))
          (λ t early. cell_before table r t c early ∙ rows.all t c early below)

      grown : (c : ℕ) → c < COLUMNS → (t : ℕ) → t < suc (length table) → cell (table ++ r ∷ []) t c ≡ lin (kind_at terms t) (λ i. cell (table ++ r ∷ []) i c) (alone constant one_ℚ c) (alone t one_ℚ c)
      grown c below t early =
          made_before c below t early
          ∙ lin_congruent (kind_at terms t) _ _ _ _ (λ i input. sym (cell_before table r i c (omega (arith, shaped.earlier t (omega arith) i input))))

  built_rows : (rest done : List Term) (table final : Table) → done ++ rest ≡ terms → length table ≡ length done → Rows terms table → built rest table ≡ made final → (length final ≡ length terms) × Rows terms final
  unfolding built
  built_rows [] done table final all same rows h =
      let ends : table ≡ final = cc in
      (ap length (sym ends) ∙ same ∙ ap length (sym (append-nil done) ∙ all), subst (Rows terms) ends rows)
  built_rows (term ∷ rest) done table final all same rows h =
      let (r, first, second) = bind_made (row (built_column table (length table) term.kind)) (λ r. built rest (table ++ r ∷ [])) final h in
      let within : length table < length terms = omega (arith, simp length-append at (ap length all)) in
      let here : kind_at terms (length table) ≡ term.kind = rw (same, ← all) (kind_at_seam done term rest) in
      built_rows rest (done ++ term ∷ []) (table ++ r ∷ []) final (append_snoc done term rest ∙ all) (simp length-append (ap (λ n. n + 1) same)) (next_row term.kind table r within here rows first) second

  module _ (table : Table) (sized : length table ≡ length terms) (rows : Rows terms table) where
    -- An unknown is unsolved.
    built_unsolved : (c : ℕ) → c < length terms → is_unknown (kind_at terms c) ≡ true → Unsolved terms table c
    built_unsolved c below unknown = record {
      below = below;
      unknown = unknown;
      itself = λ k inside. rows.all c k (omega arith) inside ∙ lin_unknown (kind_at terms c) _ _ _ unknown;
    }

    -- A column that is no unknown's is zero.
    built_absent : (c : ℕ) → c < TERMS → (c < length terms → is_unknown (kind_at terms c) ≡ false) → (bound t : ℕ) → t < bound → cell table t c ≡ zero_ℚ
    built_absent c inside absent zero t early = absurd (omega arith)
    built_absent c inside absent (suc bound) t early = by (dec_lt t (length terms)) (built_absent c inside absent bound)
      where
        own : t < length terms → (a : ℕ → ℚ) (unit : ℚ) → Dec (t ≡ c) → lin (kind_at terms t) a unit (alone t one_ℚ c) ≡ lin (kind_at terms t) a unit zero_ℚ
        own below a unit (yes same) = lin_own (kind_at terms t) a unit _ _ (rw same (absent (rw same at below)))
        own below a unit (no other) = ap (lin (kind_at terms t) a unit) (alone_elsewhere (λ same. other (sym same)) one_ℚ)

        by : Dec (t < length terms) → ((i : ℕ) → i < bound → cell table i c ≡ zero_ℚ) → cell table t c ≡ zero_ℚ
        by (no past) before = cell_past table t c (omega arith)
        by (yes below) before =
            rows.all t c (omega arith) (column_below (omega arith))
            ∙ own below _ _ (ℕ_discrete t c)
            ∙ ap (λ unit. lin (kind_at terms t) (λ i. cell table i c) unit zero_ℚ) (alone_elsewhere (constant_apart inside) one_ℚ)
            ∙ lin_congruent (kind_at terms t) _ _ _ _ (λ i input. before i (omega (arith, shaped.earlier t below i input)))
            ∙ sym (lin_commutes zero_linear (kind_at terms t) (λ i c. zero_ℚ) (λ c. zero_ℚ) (λ c. zero_ℚ))

    -- I1
    built_columns : (t c : ℕ) → c < TERMS → cell table t c ≢ zero_ℚ → Unsolved terms table c
    built_columns t c inside nonzero = by (dec_lt c (length terms)) (is_unknown (kind_at terms c)) refl
      where
        by : Dec (c < length terms) → (b : Bool) → is_unknown (kind_at terms c) ≡ b → Unsolved terms table c
        by (yes below) true unknown = built_unsolved c below unknown
        by (yes below) false known = absurd (nonzero (built_absent c inside (λ _. known) (suc t) t (omega arith)))
        by (no past) b h = absurd (nonzero (built_absent c inside (λ below. absurd (past below)) (suc t) t (omega arith)))

    -- I3
    built_arithmetic : (t c : ℕ) → t < length terms → c < COLUMNS → cell table t c ≡ lin (kind_at terms t) (λ i. cell table i c) (alone constant one_ℚ c) (cell table t c)
    built_arithmetic t c below inside = by (is_unknown (kind_at terms t)) refl
      where
        by : (b : Bool) → is_unknown (kind_at terms t) ≡ b → cell table t c ≡ lin (kind_at terms t) (λ i. cell table i c) (alone constant one_ℚ c) (cell table t c)
        by true unknown = sym (lin_unknown (kind_at terms t) _ _ _ unknown)
        by false known = rows.all t c (omega arith) inside ∙ lin_own (kind_at terms t) _ _ _ _ known

    -- I4
    built_sound : (v : ℕ → ℚ) → Valuation terms v → (bound t : ℕ) → t < bound → t < length terms → v t ≡ eval TERMS (cell table t) v
    built_sound v valued zero t early below = absurd (omega arith)
    built_sound v valued (suc bound) t early below =
        valued.obeys t below
        ∙ lin_congruent (kind_at terms t) _ _ _ _ (λ i input. let first = shaped.earlier t below i input in built_sound v valued bound i (omega arith) (omega arith))
        ∙ sym (eval_equal TERMS (λ c inside. rows.all t c (omega arith) (column_below inside)) (λ c inside nonzero. refl)
        ∙ lin_commutes (eval_linear TERMS v) (kind_at terms t) (cell table) (alone constant one_ℚ) (alone t one_ℚ)
        ∙ ap₂ (lin (kind_at terms t) (λ i. eval TERMS (cell table i) v)) (constant_value v) (alone_value t v (omega (arith, shaped.fits))))

    -- I6
    built_counted : 0 ≡ count (length terms) (is_solved terms table)
    built_counted = sym (count_none (length terms) (is_solved terms table) (λ c below. by c below (is_unknown (kind_at terms c)) refl))
      where
        by : (c : ℕ) → c < length terms → (b : Bool) → is_unknown (kind_at terms c) ≡ b → is_solved terms table c ≡ false
        by c below true unknown = unsolved_not_counted terms table c (omega (arith, shaped.fits)) (built_unsolved c below unknown)
        by c below false known = known_not_counted terms table c known

  -- Build gives the invariant, with no assumption in force and none met.
  pub build_invariant : (rank : ℕ → ℕ) (table : Table) → built terms [] ≡ made table → Invariant rank terms [] [] (record { table = table; solved = 0 })
  build_invariant rank table h =
      let (sized, rows) = built_rows terms [] [] table refl refl (record { all = λ t c early. absurd (omega arith) }) h in
      record {
        sized = sized;
        columns = built_columns table sized rows;
        triangular = λ c below unknown. inl (built_unsolved table sized rows c below unknown);
        arithmetic = built_arithmetic table sized rows;
        sound = λ v valued meets t below. built_sound table sized rows v valued (suc t) t (omega arith) below;
        equal = λ pair none. absurd (Memᴰ.not-nil none);
        counted = built_counted table sized rows;
      }
