-- Equal rows, closed tables, and the form that a difference of rows gives for an unknown.
-- Main definitions: `EqualCells`, `EqualPlaces`, `ClosedTable`, `solved_form`. Assumes nothing.
use Rattle.std.specs.Prelude.{◌≡◌, cond, List, [], ◌∷◌, ℕ, ◌<◌, length, T, eqb}
use Rattle.fraction.specs.Exact.{zero_ℚ, neg_ℚ, ◌÷ℚ◌}
use Rattle.laws_linear.specs.Form.{Form}
use Rattle.rules_problem.specs.declared.Term.{Term}
use Rattle.rules_problem.specs.Lookup.{alike, inputs_of, kind_at}
use Rattle.rules_run.specs.Row.{COLUMNS, Table, cell}

-- Terms t and u have the same number in each column.
abbrev pub EqualCells : Table → (t u : ℕ) → Type 0
EqualCells table t u = (c : ℕ) → c < COLUMNS → cell table t c ≡ cell table u c

-- lists of terms with equal rows, place by place
unfoldable pub EqualPlaces : Table → List ℕ → List ℕ → Type 0
EqualPlaces table [] [] = Unit
EqualPlaces table [] (u ∷ us) = ⊥
EqualPlaces table (t ∷ ts) [] = ⊥
EqualPlaces table (t ∷ ts) (u ∷ us) = EqualCells table t u × EqualPlaces table ts us

-- A table is closed: alike lookups whose inputs have equal rows, place by place, have equal rows.
unfoldable pub ClosedTable : List Term → Table → Type 0
ClosedTable terms table =
    (i j : ℕ) → i < j → j < length terms → T (alike (kind_at terms i) (kind_at terms j)) →
    EqualPlaces table (inputs_of (kind_at terms i)) (inputs_of (kind_at terms j)) → EqualCells table i j

-- the unknown p, solved from a difference that is zero: every other column divided by that of p and negated
unfoldable pub solved_form : (p : ℕ) → (difference : Form) → Form
solved_form p difference c = cond (eqb c p) zero_ℚ (neg_ℚ (difference c ÷ℚ difference p))
