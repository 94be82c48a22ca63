-- Readings and valuations say the same of the terms: whole numbers over one divisor, and exact fractions.
-- Main results: `value_in_equal`, `reading_valued` (R1), `valuation_read`, `valuation_read_equal` (R2). Assume nothing.
use mathlib.Core.Path.{◌≡◌, refl, sym, ap, ap₂, ◌∙◌}
use mathlib.Core.Logic.{◌↔◌}
use mathlib.Core.List.Memᴰ
use mathlib.Core.List.{List, [], ◌∷◌, map, Memᴰ}
use Prim.Native.Nat.{ℕ, zero, suc, ◌*◌, ◌/◌, ◌^◌, ◌<◌, ◌∣◌}
use native.Mathlib.Decide.{ℕ_discrete}
use native.Mathlib.Nat.{mul-pos, dvd-mul_left, dvd-mul_right_of_dvd, div-mul_cancel}
use native.Mathlib.Omega.{arith}
use lib.ListN.{length}
use lib.Pow.{pow_pos}
use lib.IntN.{ℤ, pos, ◌*ℤ◌}
use Rattle.whole.proofs.Ring.{mul_assoc_ℤ}
use Rattle.fraction.specs.declared.Scaled.{Scaled}
use Rattle.fraction.specs.Exact.{ℚ, one_ℚ, worth}
use Rattle.fraction.proofs.Common.{equal_iff, equal_over, sum_over, difference_over, multiple_over}
use Rattle.fraction.proofs.Cross.{Is, Is-unique, frac_is}
use Rattle.fraction.proofs.Field.{times_one}
use Rattle.rules_problem.specs.declared.Kind.{Kind}
use Rattle.rules_problem.specs.declared.Kind.TheVariants.{Variable, Constant, Gain, Sum, Difference, Lookup1, Lookup2, Lookup3}
use Rattle.rules_problem.specs.declared.Term.{Term}
use Rattle.rules_problem.specs.Lookup.{call_of, inputs_of, kind_at}
use Rattle.rules_reading.specs.Reading.{Obeys, Reading}
use Rattle.laws_valuation.specs.Valuation.{lin, Valuation}
use Rattle.laws_valuation.specs.Values.{value_in}
use Rattle.laws_valuation.specs.Written.{all_inputs, Written}

-- A record's fraction is its mantissa over 2^shift.
pub worth_is : (held : Scaled) → Is (worth held) held.mantissa (2 ^ held.shift)
unfolding worth
worth_is held = frac_is held.mantissa (pow_pos held.shift)

-- Numbers over one divisor obey a term exactly if the fractions that they are do.
obeys_iff : (number : ℕ → ℤ) (D : ℕ) (v : ℕ → ℚ) (own : ℕ) (kind : Kind) → Is (v own) (number own) D → ((i : ℕ) → Memᴰ i (all_inputs kind) → Is (v i) (number i) D) → Obeys number D (number own) kind ↔ (v own ≡ lin kind v one_ℚ (v own))
unfolding all_inputs Obeys lin
obeys_iff number D v own (Variable symbol) self over = (λ obeys. refl, λ same. tt)
obeys_iff number D v own (Constant held) self over = rw times_one (equal_iff self (worth_is held))
obeys_iff number D v own (Gain factor input) self over = multiple_over self (worth_is factor) (over input (Memᴰ.head refl))
obeys_iff number D v own (Sum left right) self over = equal_over self (sum_over (over left (Memᴰ.head refl)) (over right (Memᴰ.tail (Memᴰ.head refl))))
obeys_iff number D v own (Difference left right) self over = equal_over self (difference_over (over left (Memᴰ.head refl)) (over right (Memᴰ.tail (Memᴰ.head refl))))
obeys_iff number D v own (Lookup1 symbol input) self over = (λ obeys. refl, λ same. tt)
obeys_iff number D v own (Lookup2 symbol first second) self over = (λ obeys. refl, λ same. tt)
obeys_iff number D v own (Lookup3 symbol first second third) self over = (λ obeys. refl, λ same. tt)

-- The inputs of a lookup are among its inputs as a term, so they are terms of the list.
pub lookup_inputs : (kind : Kind) (i : ℕ) → Memᴰ i (inputs_of kind) → Memᴰ i (all_inputs kind)
unfolding all_inputs inputs_of call_of
lookup_inputs (Variable symbol) i h = h
lookup_inputs (Constant held) i h = h
lookup_inputs (Gain factor input) i h = absurd (Memᴰ.not-nil h)
lookup_inputs (Sum left right) i h = absurd (Memᴰ.not-nil h)
lookup_inputs (Difference left right) i h = absurd (Memᴰ.not-nil h)
lookup_inputs (Lookup1 symbol input) i h = h
lookup_inputs (Lookup2 symbol first second) i h = h
lookup_inputs (Lookup3 symbol first second third) i h = h

pub inputs_below : (terms : List Term) → Written terms → (t : ℕ) → t < length terms → (i : ℕ) → Memᴰ i (inputs_of (kind_at terms t)) → i < length terms
inputs_below terms written t below i member = omega (arith, written.earlier t below i (lookup_inputs (kind_at terms t) i member))

-- where equal numbers of f are equal numbers of g, equal lists of f are equal lists of g
map_equal : {A B : Type 0} (f : ℕ → A) (g : ℕ → B) (is js : List ℕ) → ((i j : ℕ) → Memᴰ i is → Memᴰ j js → f i ≡ f j → g i ≡ g j) → map f is ≡ map f js → map g is ≡ map g js
map_equal f g [] [] equal same = refl
map_equal f g [] (j ∷ js) equal same = cc
map_equal f g (i ∷ is) [] equal same = cc
map_equal f g (i ∷ is) (j ∷ js) equal same =
    ap₂ ◌∷◌ (equal i j (Memᴰ.head refl) (Memᴰ.head refl) (cc))
    (map_equal f g is js (λ a b h k. equal a b (Memᴰ.tail h) (Memᴰ.tail k)) (cc))

inputs_equal : {A B : Type 0} (terms : List Term) → Written terms → (f : ℕ → A) (g : ℕ → B) → ((i j : ℕ) → i < length terms → j < length terms → f i ≡ f j → g i ≡ g j) → (i j : ℕ) → i < length terms → j < length terms → map f (inputs_of (kind_at terms i)) ≡ map f (inputs_of (kind_at terms j)) → map g (inputs_of (kind_at terms i)) ≡ map g (inputs_of (kind_at terms j))
inputs_equal terms written f g equal i j h k =
    map_equal f g (inputs_of (kind_at terms i)) (inputs_of (kind_at terms j))
    (λ a b l m. equal a b (inputs_below terms written i h a l) (inputs_below terms written j k b m))

value_in_is : {terms : List Term} (r : Reading terms) (t : ℕ) → Is (value_in r t) (r.number t) r.divisor
unfolding value_in
value_in_is r t = frac_is (r.number t) r.positive

-- In a reading two numbers are equal exactly if the values are.
pub value_in_equal : {terms : List Term} (r : Reading terms) (i j : ℕ) → (r.number i ≡ r.number j) ↔ (value_in r i ≡ value_in r j)
value_in_equal r i j = equal_over (value_in_is r i) (value_in_is r j)

-- R1: the values of a reading are a valuation.
pub reading_valued : (terms : List Term) → Written terms → (r : Reading terms) → Valuation terms (value_in r)
reading_valued terms written r = record {
  obeys = λ t h. (obeys_iff r.number r.divisor (value_in r) t (kind_at terms t) (value_in_is r t) (λ i k. value_in_is r i)).0 (r.obeys t h);
  congruent = λ i j h k same inputs.
      (value_in_equal r i j).0 (r.congruent i j h k same
      (inputs_equal terms written (value_in r) r.number (λ a b l m. (value_in_equal r a b).1) i j (omega arith) k inputs));
}

-- the product of the denominators below `count`
denominators : (count : ℕ) → (ℕ → ℚ) → ℕ
denominators zero v = 1
denominators (suc k) v = denominators k v * (v k).den

denominators_positive : (count : ℕ) (v : ℕ → ℚ) → 0 < denominators count v
unfolding denominators
denominators_positive zero v = omega arith
denominators_positive (suc k) v = mul-pos (denominators_positive k v) (v k).positive

denominator_divides : (count : ℕ) (v : ℕ → ℚ) (t : ℕ) → t < count → (v t).den ∣ denominators count v
unfolding denominators
denominator_divides zero v t h = absurd (omega arith)
denominator_divides (suc k) v t h = by (ℕ_discrete t k) (denominator_divides k v t)
  where
    by : Dec (t ≡ k) → (t < k → (v t).den ∣ denominators k v) → (v t).den ∣ denominators k v * (v k).den
    by (yes last) before = rw last (dvd-mul_left (v k).den (denominators k v))
    by (no other) before = dvd-mul_right_of_dvd (v t).den (before (omega arith)) (v k).den

-- R2: a valuation comes from a reading, whose divisor is the product of the denominators.
pub valuation_read : (terms : List Term) → Written terms → (v : ℕ → ℚ) → Valuation terms v → (r : Reading terms) × ((t : ℕ) → t < length terms → value_in r t ≡ v t)
valuation_read terms written v valued = (reading, λ t h. Is-unique (value_in_is reading t) (over t h))
  where
    D : ℕ
    D = denominators (length terms) v

    number : ℕ → ℤ
    number t = (v t).num *ℤ pos (D / (v t).den)

    over : (t : ℕ) → t < length terms → Is (v t) (number t) D
    over t h = record {
      positive = denominators_positive (length terms) v;
      cross = ap (λ x. (v t).num *ℤ pos x) (sym (div-mul_cancel (v t).den (denominator_divides (length terms) v t h)))
          ∙ sym (mul_assoc_ℤ (v t).num (pos (D / (v t).den)) (pos (v t).den));
    }

    equal : (i j : ℕ) → i < length terms → j < length terms → (number i ≡ number j) ↔ (v i ≡ v j)
    equal i j h k = equal_over (over i h) (over j k)

    reading : Reading terms
    reading = record {
      number = number;
      divisor = D;
      positive = denominators_positive (length terms) v;
      obeys = λ t h. (obeys_iff number D v t (kind_at terms t) (over t h) (λ i k. over i (omega (arith, written.earlier t h i k)))).1 (valued.obeys t h);
      congruent = λ i j h k same inputs.
          (equal i j (omega arith) k).1 (valued.congruent i j h k same
          (inputs_equal terms written number v (λ a b l m. (equal a b l m).0) i j (omega arith) k inputs));
    }

-- Its numbers are equal exactly where the values are.
pub valuation_read_equal : (terms : List Term) → Written terms → (v : ℕ → ℚ) → Valuation terms v → (r : Reading terms) × ((i j : ℕ) → i < length terms → j < length terms → (r.number i ≡ r.number j) ↔ (v i ≡ v j))
valuation_read_equal terms written v valued =
    let read = valuation_read terms written v valued in (
      read.0,
      λ i j h k.
          let i-is = read.1 i h in
          let j-is = read.1 j k in
          (λ same. sym i-is ∙ (value_in_equal read.0 i j).0 same ∙ j-is, λ same. (value_in_equal read.0 i j).1 (i-is ∙ same ∙ sym j-is)),
    )
