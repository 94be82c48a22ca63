-- Affine forms: a coefficient for each of N columns, and a constant in column N. They are what the laws make of rows.
-- Main definitions: `Form`, `sum`, `eval`, `fold_form`. Assumes nothing.
use Rattle.std.specs.Prelude.{cond, ℕ, zero, suc, eqb}
use Rattle.fraction.specs.Exact.{ℚ, zero_ℚ, ◌+ℚ◌, ◌*ℚ◌}

abbrev pub Form : Type 0
Form = ℕ → ℚ

-- the sum of g at the numbers below `count`
unfoldable pub sum : (count : ℕ) → (g : ℕ → ℚ) → ℚ
sum zero g = zero_ℚ
sum (suc c) g = sum c g +ℚ g c

-- the value of a form of N columns where column c counts `values c`
unfoldable pub eval : (N : ℕ) → Form → (values : ℕ → ℚ) → ℚ
eval N f values = sum N (λ c. f c *ℚ values c) +ℚ f N

-- the form r with column p replaced by the form `solved`: column p becomes 0, each other column gains r p times the solved column
unfoldable pub fold_form : (p : ℕ) → (solved : Form) → Form → Form
fold_form p solved r c = cond (eqb c p) zero_ℚ (r c +ℚ r p *ℚ solved c)
