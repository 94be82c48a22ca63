-- The laws of a term as a linear function of its inputs.
-- Main results: `lin_congruent`, `lin_unknown`, `lin_own`, `Linear`, `lin_commutes`, `fold_linear`, `eval_linear`. Assume nothing.
use mathlib.Core.Path.{◌≡◌, refl, sym, ap, ap₂}
use mathlib.Core.Bool.{true, false}
use mathlib.Core.List.{[], Memᴰ}
use Prim.Native.Nat.{ℕ}
use native.Mathlib.Omega.{arith}
use Rattle.whole.proofs.Solver.{ring}
use Rattle.fraction.specs.Exact.{ℚ, zero_ℚ, worth, ◌+ℚ◌, ◌-ℚ◌, ◌*ℚ◌}
use Rattle.fraction.proofs.Field.{ℚ-ring, readsℚ, times_zero}
use Rattle.laws_linear.specs.Form.{Form, eval, fold_form}
use Rattle.laws_linear.proofs.Eval.{eval_plus, eval_minus, eval_times}
use Rattle.laws_linear.proofs.Fold.{fold_plus, fold_minus, fold_times}
use Rattle.rules_problem.specs.declared.Kind.{Kind}
use Rattle.rules_problem.specs.declared.Kind.TheVariants.{Variable, Constant, Gain, Sum, Difference, Lookup1, Lookup2, Lookup3}
use Rattle.laws_valuation.specs.Valuation.{lin}
use Rattle.laws_valuation.specs.Written.{all_inputs}
use Rattle.laws_invariant.specs.Invariant.{is_unknown}

-- What a term counts depends on what its inputs count, and on nothing else.
pub lin_congruent : (kind : Kind) (a b : ℕ → ℚ) (unit own : ℚ) → ((i : ℕ) → Memᴰ i (all_inputs kind) → a i ≡ b i) → lin kind a unit own ≡ lin kind b unit own
unfolding lin all_inputs
lin_congruent (Variable symbol) a b unit own same = refl
lin_congruent (Constant held) a b unit own same = refl
lin_congruent (Gain factor input) a b unit own same = ap (λ x. worth factor *ℚ x) (same input (Memᴰ.head refl))
lin_congruent (Sum left right) a b unit own same = ap₂ ◌+ℚ◌ (same left (Memᴰ.head refl)) (same right (Memᴰ.tail (Memᴰ.head refl)))
lin_congruent (Difference left right) a b unit own same = ap₂ ◌-ℚ◌ (same left (Memᴰ.head refl)) (same right (Memᴰ.tail (Memᴰ.head refl)))
lin_congruent (Lookup1 symbol input) a b unit own same = refl
lin_congruent (Lookup2 symbol first second) a b unit own same = refl
lin_congruent (Lookup3 symbol first second third) a b unit own same = refl

-- An unknown counts what it chooses.
pub lin_unknown : (kind : Kind) (a : ℕ → ℚ) (unit own : ℚ) → is_unknown kind ≡ true → lin kind a unit own ≡ own
unfolding lin is_unknown
lin_unknown kind a unit own h = grind arith

-- Any other term has no choice.
pub lin_own : (kind : Kind) (a : ℕ → ℚ) (unit own other : ℚ) → is_unknown kind ≡ false → lin kind a unit own ≡ lin kind a unit other
unfolding lin is_unknown
lin_own kind a unit own other h = grind arith

-- A number made of a form that keeps sums, differences and multiples.
pub record Linear (L : Form → ℚ) : Type 0 where
  pub plus : (f g : Form) → L (λ c. f c +ℚ g c) ≡ L f +ℚ L g
  pub minus : (f g : Form) → L (λ c. f c -ℚ g c) ≡ L f -ℚ L g
  pub times : (k : ℚ) (f : Form) → L (λ c. k *ℚ f c) ≡ k *ℚ L f

-- What keeps sums, differences and multiples keeps what a term makes of its inputs.
pub lin_commutes : {L : Form → ℚ} → Linear L → (kind : Kind) (rows : ℕ → Form) (unit own : Form) → L (λ c. lin kind (λ i. rows i c) (unit c) (own c)) ≡ lin kind (λ i. L (rows i)) (L unit) (L own)
unfolding lin
lin_commutes l (Variable symbol) rows unit own = refl
lin_commutes l (Constant held) rows unit own = l.times (worth held) unit
lin_commutes l (Gain factor input) rows unit own = l.times (worth factor) (rows input)
lin_commutes l (Sum left right) rows unit own = l.plus (rows left) (rows right)
lin_commutes l (Difference left right) rows unit own = l.minus (rows left) (rows right)
lin_commutes l (Lookup1 symbol input) rows unit own = refl
lin_commutes l (Lookup2 symbol first second) rows unit own = refl
lin_commutes l (Lookup3 symbol first second third) rows unit own = refl

-- A column of the fold does so, and so does the value.
pub fold_linear : (p : ℕ) (solved : Form) (c : ℕ) → Linear (λ f. fold_form p solved f c)
fold_linear p solved c = record {
  plus = λ f g. fold_plus p solved f g c;
  minus = λ f g. fold_minus p solved f g c;
  times = λ k f. fold_times p solved k f c;
}

pub eval_linear : (N : ℕ) (v : ℕ → ℚ) → Linear (λ f. eval N f v)
eval_linear N v = record { plus = λ f g. eval_plus N f g v; minus = λ f g. eval_minus N f g v; times = λ k f. eval_times N k f v }

-- Zero for all forms does so too.
pub zero_linear : Linear (λ f. zero_ℚ)
zero_linear = record {
  plus = λ f g. ring ℚ-ring [] (search readsℚ depth 20) refl;
  minus = λ f g. ring ℚ-ring [] (search readsℚ depth 20) refl;
  times = λ k f. sym (times_zero k);
}
