-- Fractions in lowest terms, as the code holds them.
-- Main results: `ℚ-same`, `lowest_num`, `lowest_den`, `value_num`, `value_den`, `value_one_to_one`, `zero_den`. Assume nothing.
use mathlib.Core.HLevel.{is_prop→PathP}
use mathlib.Core.Path.{◌≡◌, refl, sym, ap, ◌∙◌}
use Prim.Native.Nat.{ℕ, zero, suc, ◌/◌, ◌<◌}
use native.Mathlib.Bridge.{le_prop}
use native.Mathlib.Nat.{ℕ_set, div-one, zero-mod}
use native.Mathlib.Omega.{arith}
use lib.IntN.{ℤ, pos, nat_abs}
use Rattle.whole.specs.Gcd.{gcd}
use Rattle.whole.specs.Signed.{signed}
use Rattle.whole.proofs.Sizes.{size_signed, signed_size}
use Rattle.whole.proofs.Steps.{gcd_stops, gcd_step}
use Rattle.fraction.specs.Exact.{ℚ, frac}
use Rattle.fraction.specs.declared.Fraction.{Fraction}
use Rattle.fraction_reduce.specs.Values.{value, Good}

-- Exact fractions with the same two numbers are the same.
pub ℚ-same : {p q : ℚ} → p.num ≡ q.num → p.den ≡ q.den → p ≡ q
ℚ-same {p} {q} n d i =
    record {
      num = n i;
      den = d i;
      positive = is_prop→PathP (λ j. 0 < d j) (λ j. le_prop) p.positive q.positive i;
      lowest = is_prop→PathP (λ j. gcd (nat_abs (n j)) (d j) ≡ 1) (λ j. ℕ_set (gcd (nat_abs (n j)) (d j)) 1) p.lowest q.lowest i;
    }

-- the two numbers of n / d
pub frac_num : (n : ℤ) (d : ℕ) → 0 < d → (frac n d).num ≡ signed n (nat_abs n / gcd (nat_abs n) d)
unfolding frac
frac_num n zero h = absurd (omega arith)
frac_num n (suc d) h = refl

pub frac_den : (n : ℤ) (d : ℕ) → 0 < d → (frac n d).den ≡ d / gcd (nat_abs n) d
unfolding frac
frac_den n zero h = absurd (omega arith)
frac_den n (suc d) h = refl

pub frac_size : (n : ℤ) (d : ℕ) → 0 < d → nat_abs (frac n d).num ≡ nat_abs n / gcd (nat_abs n) d
frac_size n d h = ap nat_abs (frac_num n d h) ∙ size_signed n (nat_abs n / gcd (nat_abs n) d)

-- Two numbers that are in lowest terms stay as they are.
pub lowest_num : (n : ℤ) (d : ℕ) → 0 < d → gcd (nat_abs n) d ≡ 1 → (frac n d).num ≡ n
lowest_num n d h e = frac_num n d h ∙ ap (λ g. signed n (nat_abs n / g)) e ∙ ap (signed n) (div-one (nat_abs n)) ∙ signed_size n

pub lowest_den : (n : ℤ) (d : ℕ) → 0 < d → gcd (nat_abs n) d ≡ 1 → (frac n d).den ≡ d
lowest_den n d h e = frac_den n d h ∙ ap (λ g. d / g) e ∙ div-one d

-- The exact fraction of a good struct has the struct's own two numbers.
pub value_num : {f : Fraction} → Good f → (value f).num ≡ f.num
unfolding value
value_num {f} good = lowest_num f.num (nat_abs f.den) good.least good.lowest

pub value_den : {f : Fraction} → Good f → (value f).den ≡ nat_abs f.den
unfolding value
value_den {f} good = lowest_den f.num (nat_abs f.den) good.least good.lowest

-- Good structs of the same value are the same.
pub value_one_to_one : {f g : Fraction} → Good f → Good g → value f ≡ value g → f ≡ g
value_one_to_one {f} {g} p q e =
    let n : f.num ≡ g.num = sym (value_num p) ∙ ap (λ x. x.num) e ∙ value_num q in
    let d : nat_abs f.den ≡ nat_abs g.den = sym (value_den p) ∙ ap (λ x. x.den) e ∙ value_den q in
    let s : f.den ≡ g.den = p.upward ∙ ap pos d ∙ sym q.upward in
    λ i. record { num = n i; den = s i }

-- The greatest common divisor of 0 and a number is the number.
pub gcd_nothing : (d : ℕ) → 0 < d → gcd 0 d ≡ d
gcd_nothing d h = gcd_step 0 d h ∙ ap (gcd d) (zero-mod d) ∙ gcd_stops d

-- Zero is 0/1.
pub zero_den : {a : Fraction} → Good a → a.num ≡ pos 0 → a.den ≡ pos 1
zero_den {a} good e =
    good.upward ∙ ap pos (sym (gcd_nothing (nat_abs a.den) good.least) ∙ ap (λ x. gcd x (nat_abs a.den)) (sym (ap nat_abs e)) ∙ good.lowest)
