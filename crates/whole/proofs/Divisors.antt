-- The laws of the greatest common divisor.
-- Main results: `gcd_divides_left`, `gcd_divides_right`, `gcd_greatest`, `gcd_lowered`. Assume nothing.
use mathlib.Core.Path.{◌≡◌, sym, ap, ◌∙◌, subst}
use Prim.Native.Nat.{ℕ, zero, suc, ◌+◌, ◌*◌, ◌/◌, ◌%◌, ◌∣◌, ◌<◌, ◌≤◌}
use native.Mathlib.Nat.{
  dvd_refl,
  dvd-zero,
  dvd-mod_iff,
  mod-lt,
  div-add-mod',
  dvd-add_iff_right,
  dvd-mul_left_of_dvd,
  mul_assoc,
  add-mul,
  mul-one,
  mul-dvd-mul_right,
  div-mul_cancel,
  dvd_of_mul-dvd-mul_right,
  eq-one_of_dvd-one,
  one-mul,
  pos_of_dvd_of_pos,
  le_of_dvd,
  le-div_iff_mul-le,
}
use native.Mathlib.Omega.{arith}
use Rattle.whole.specs.Gcd.{gcd, euclid}

-- Euclid's rule with enough turns divides both numbers
euclid_divides : (turns a b : ℕ) → b < turns → (euclid turns a b ∣ a) × (euclid turns a b ∣ b)
unfolding euclid
euclid_divides zero a b h = absurd (let z : ◌≡◌ {A = ℕ} 0 1 = omega arith in omega arith)
euclid_divides (suc turns) a zero h = (dvd_refl a, dvd-zero a)
euclid_divides (suc turns) a (suc b) h =
    let falls : a % suc b < suc b = mod-lt a (omega arith) in
    let ih = euclid_divides turns (suc b) (a % suc b) (omega arith) in
    ((dvd-mod_iff _ ih.0).0 ih.1, ih.0)

pub gcd_divides_left : (a b : ℕ) → gcd a b ∣ a
unfolding gcd
gcd_divides_left a b = (euclid_divides (suc b) a b (omega arith)).0

pub gcd_divides_right : (a b : ℕ) → gcd a b ∣ b
unfolding gcd
gcd_divides_right a b = (euclid_divides (suc b) a b (omega arith)).1

-- what divides both numbers, each times c, divides what Euclid's rule gives, times c
euclid_greatest : (turns a b c d : ℕ) → b < turns → d ∣ a * c → d ∣ b * c → d ∣ euclid turns a b * c
unfolding euclid
euclid_greatest zero a b c d h p q = p
euclid_greatest (suc turns) a zero c d h p q = p
euclid_greatest (suc turns) a (suc b) c d h p q =
    let falls : a % suc b < suc b = mod-lt a (omega arith) in
    let split : a / suc b * (suc b * c) + a % suc b * c ≡ a * c =
    ap (λ x. x + a % suc b * c) (sym (mul_assoc (a / suc b) (suc b) c)) ∙ sym (add-mul (a / suc b * suc b) (a % suc b) c) ∙ ap (λ x. x * c) (div-add-mod' a (suc b))
    in
    let whole : d ∣ a / suc b * (suc b * c) + a % suc b * c = subst (λ x. d ∣ x) (sym split) p in
    euclid_greatest turns (suc b) (a % suc b) c d (omega arith) q
    ((dvd-add_iff_right d (dvd-mul_left_of_dvd d q (a / suc b))).1 whole)

-- Whatever divides both numbers, each times c, divides their greatest common divisor times c.
pub gcd_greatest : (a b c d : ℕ) → d ∣ a * c → d ∣ b * c → d ∣ gcd a b * c
unfolding gcd
gcd_greatest a b c d p q = euclid_greatest (suc b) a b c d (omega arith) p q

-- Divided by their greatest common divisor, two numbers have no common divisor but 1.
pub gcd_lowered : (a b : ℕ) → 0 < gcd a b → gcd (a / gcd a b) (b / gcd a b) ≡ 1
gcd_lowered a b h =
    let g = gcd a b in
    let low = gcd (a / g) (b / g) in
    let left : low * g ∣ a = subst (λ x. low * g ∣ x) (div-mul_cancel g (gcd_divides_left a b)) (mul-dvd-mul_right low (gcd_divides_left (a / g) (b / g)) g) in
    let right : low * g ∣ b = subst (λ x. low * g ∣ x) (div-mul_cancel g (gcd_divides_right a b)) (mul-dvd-mul_right low (gcd_divides_right (a / g) (b / g)) g) in
    let both : low * g ∣ g * 1 = gcd_greatest a b 1 (low * g) (subst (λ x. low * g ∣ x) (sym (mul-one a)) left) (subst (λ x. low * g ∣ x) (sym (mul-one b)) right) in
    let once : low * g ∣ 1 * g = subst (λ x. low * g ∣ x) (mul-one g ∙ sym (one-mul g)) both in
    eq-one_of_dvd-one (dvd_of_mul-dvd-mul_right low h once)

pub gcd_positive : (a : ℕ) {b : ℕ} → 0 < b → 0 < gcd a b
gcd_positive a {b} h = pos_of_dvd_of_pos (gcd_divides_right a b) h

-- Divided by the greatest common divisor, a positive number stays positive.
pub lowered_positive : (a : ℕ) {b : ℕ} → 0 < b → 0 < b / gcd a b
lowered_positive a {b} h =
    (le-div_iff_mul-le (gcd_positive a h)).1 (subst (λ x. x ≤ b) (sym (one-mul (gcd a b))) (le_of_dvd h (gcd_divides_right a b)))

pub gcd_one : (a : ℕ) → gcd a 1 ≡ 1
gcd_one a = eq-one_of_dvd-one (gcd_divides_right a 1)
