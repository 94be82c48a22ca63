-- Readings of a list of terms. Nothing of the run stands here.
-- Main definitions: `Obeys`, `Reading`, `Meets`. Assumes nothing.
use Rattle.std.specs.Prelude.{◌≡◌, ℕ, ◌^◌, ◌<◌, length, ℤ, pos, ◌+ℤ◌, ◌-ℤ◌, ◌*ℤ◌, T}
use mathlib.Core.List.{List, Memᴰ, map}
use Rattle.rules_problem.specs.declared.Kind.{Kind}
use Rattle.rules_problem.specs.declared.Kind.TheVariants.{Variable, Constant, Gain, Sum, Difference, Lookup1, Lookup2, Lookup3}
use Rattle.rules_problem.specs.declared.Term.{Term}
use Rattle.rules_problem.specs.Lookup.{alike, inputs_of, kind_at}
use Rattle.rules_problem.specs.Problem.{Pair}

-- 01, Readings: "a constant's number times 2^shift is mantissa times D; a gain's number times 2^shift is mantissa times its
-- input's number; sums and differences add up"
unfoldable pub Obeys : (number : ℕ → ℤ) (D : ℕ) (own : ℤ) → Kind → Type 0
Obeys number D own (Variable symbol) = Unit
Obeys number D own (Constant value) = own *ℤ pos (2 ^ value.shift) ≡ value.mantissa *ℤ pos D
Obeys number D own (Gain factor input) = own *ℤ pos (2 ^ factor.shift) ≡ factor.mantissa *ℤ number input
Obeys number D own (Sum left right) = own ≡ number left +ℤ number right
Obeys number D own (Difference left right) = own ≡ number left -ℤ number right
Obeys number D own (Lookup1 symbol input) = Unit
Obeys number D own (Lookup2 symbol first second) = Unit
Obeys number D own (Lookup3 symbol first second third) = Unit

-- "A reading gives every term a whole number, all over one common positive whole divisor D, such that: (..); two lookups of
-- the same kind and symbol whose inputs have equal numbers, place by place, have equal numbers."
pub record Reading (terms : List Term) : Type 0 where
  pub number : ℕ → ℤ
  pub divisor : ℕ
  pub positive : 0 < divisor
  pub obeys : (t : ℕ) → t < length terms → Obeys number divisor (number t) (kind_at terms t)
  pub congruent : (i j : ℕ) → i < j → j < length terms → T (alike (kind_at terms i) (kind_at terms j)) → map number (inputs_of (kind_at terms i)) ≡ map number (inputs_of (kind_at terms j)) → number i ≡ number j

-- "It meets a pair if both sides have equal numbers."
unfoldable pub Meets : {terms : List Term} → Reading terms → Pair → Type 0
Meets reading pair = reading.number pair.left ≡ reading.number pair.right

unfoldable pub MeetsAll : {terms : List Term} → Reading terms → List Pair → Type 0
MeetsAll reading pairs = (pair : Pair) → Memᴰ pair pairs → Meets reading pair
