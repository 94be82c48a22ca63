-- Where no greatest common divisor is needed: zero, one, minus one, and numbers that are in lowest terms as they stand.
-- Main results: `answers_lowest`, `times_nothing`, `times_one`, `times_minus`, `plus_nothing`, `times_comm`, `plus_comm`. Assume nothing.
use Rattle.std.specs.Prelude.{Ok}
use mathlib.Core.Path.{◌≡◌, refl, sym, ap, ap₂, ◌∙◌, subst}
use Prim.Native.Nat.{ℕ, suc, ◌*◌, ◌/◌, ◌^◌, ◌<◌, ◌≤◌}
use native.Mathlib.Nat.{mul-one, one-mul, mul_comm, zero-div, div_self}
use native.Mathlib.Omega.{arith}
use lib.Dec.{T, ltb}
use lib.IntN.{ℤ, pos, negsuc, neg_ℤ, nat_abs, ◌+ℤ◌, ◌*ℤ◌, +ℤ_idl, +ℤ_comm, zero-*ℤ, *ℤ_comm, *ℤ-negsuc}
use lib.Signed.{mag}
use mir.Facts.{to_z-of_z, sfits_lit}
use mir.Syntax.{w32}
use mir.Val.{SFits, to_z, of_z}
use Rattle.whole.specs.Gcd.{gcd}
use Rattle.whole.specs.Signed.{signed}
use Rattle.fraction.specs.Exact.{ℚ, frac, neg_ℚ, ◌+ℚ◌, ◌*ℚ◌}
use Rattle.fraction.specs.Limits.{limit, tested, plus, times}
use Rattle.fraction.specs.declared.Fraction.{Fraction}
use Rattle.fraction_reduce.specs.Values.{value, Good, Stands, Answers}
use Rattle.fraction_reduce.proofs.Linked.{answers_fits}
use Rattle.fraction_reduce.proofs.Lowest.{gcd_nothing, frac_num, frac_den, lowest_num, lowest_den, value_num, value_den, zero_den}
use Rattle.fraction_reduce.proofs.Operations.{times_is, plus_is}

-- A word of 32 bits that has the bits of a constant is that constant.
pub word_is : {x : ℤ} (k : ℤ) → T (ltb (mag k) (2 ^ 31)) → SFits w32 x → of_z w32 x ≡ of_z w32 k → x ≡ k
word_is k t fits e = sym (to_z-of_z {w = w32} fits) ∙ ap (to_z w32) e ∙ to_z-of_z {w = w32} (sfits_lit t)

times_one_right : (z : ℤ) → z *ℤ pos 1 ≡ z
times_one_right (pos n) = ap pos (mul-one n)
times_one_right (negsuc n) = ap (λ x. neg_ℤ (pos x)) (mul-one (suc n))

-- What is in lowest terms and within the limits is the answer as it stands.
pub answers_lowest : {f : Fraction} (n : ℤ) (d : ℕ) → 0 < d → gcd (nat_abs n) d ≡ 1 → f.num ≡ n → f.den ≡ pos d → nat_abs n ≤ limit → d ≤ limit → Answers (Ok f) (tested (frac n d))
answers_lowest n d h low num den wide deep =
    answers_fits (frac n d) (num ∙ sym (lowest_num n d h low)) (den ∙ ap pos (sym (lowest_den n d h low)))
    (omega (arith, ap nat_abs (lowest_num n d h low)))
    (omega (arith, lowest_den n d h low))

answers_good : {f : Fraction} → Good f → Answers (Ok f) (tested (frac f.num (nat_abs f.den)))
answers_good {f} good = answers_lowest f.num (nat_abs f.den) good.least good.lowest refl good.upward good.above good.below

pub times_comm : (p q : ℚ) → times p q ≡ times q p
unfolding times ◌*ℚ◌
times_comm p q = ap tested (ap₂ frac (*ℤ_comm p.num q.num) (mul_comm p.den q.den))

pub plus_comm : (p q : ℚ) → plus p q ≡ plus q p
unfolding plus ◌+ℚ◌
plus_comm p q = ap tested (ap₂ frac (+ℤ_comm (p.num *ℤ pos q.den) (q.num *ℤ pos p.den)) (mul_comm p.den q.den))

-- a whole number's denominator changes no other
one_times_den : (a b : Fraction) → a.den ≡ pos 1 → nat_abs b.den ≡ nat_abs a.den * nat_abs b.den
one_times_den a b e = sym (ap (λ x. nat_abs x * nat_abs b.den) e ∙ one-mul (nat_abs b.den))

-- 0 times anything is 0.
pub times_nothing : {a b : Fraction} → Good a → Good b → a.num ≡ pos 0 → Answers (Ok a) (times (value a) (value b))
unfolding signed limit
times_nothing {a} {b} p q e =
    let d = nat_abs b.den in
    let n : pos 0 ≡ a.num *ℤ b.num = sym (ap (λ x. x *ℤ b.num) e ∙ zero-*ℤ b.num) in
    let top : (frac (pos 0) d).num ≡ pos 0 = frac_num (pos 0) d q.least ∙ ap pos (zero-div (gcd 0 d)) in
    let bottom : (frac (pos 0) d).den ≡ 1 =
    frac_den (pos 0) d q.least ∙ ap (λ x. d / x) (gcd_nothing d q.least) ∙ div_self q.least
    in
    let whole = zero_den p e in
    subst (Answers (Ok a)) (times_is p q n (one_times_den a b whole))
    (answers_fits (frac (pos 0) d) (e ∙ sym top) (whole ∙ ap pos (sym bottom)) (omega (arith, ap nat_abs top)) (omega arith))

-- 1 times a fraction is the fraction.
pub times_one : {a b : Fraction} → Good a → Good b → a.num ≡ pos 1 → a.den ≡ pos 1 → Answers (Ok b) (times (value a) (value b))
times_one {a} {b} p q one whole =
    let n : b.num ≡ a.num *ℤ b.num = sym (ap (λ x. x *ℤ b.num) one ∙ *ℤ_comm (pos 1) b.num ∙ times_one_right b.num) in
    subst (Answers (Ok b)) (times_is p q n (one_times_den a b whole)) (answers_good q)

-- -1 times a fraction is its opposite.
pub times_minus : {a b f : Fraction} → Good a → Good b → a.num ≡ negsuc 0 → a.den ≡ pos 1 → Stands f (neg_ℚ (value b)) → Answers (Ok f) (times (value a) (value b))
unfolding neg_ℚ
times_minus {a} {b} {f} p q minus whole s =
    let num : f.num ≡ neg_ℤ b.num = sym (value_num s.good) ∙ ap (λ x. x.num) s.same ∙ ap neg_ℤ (value_num q) in
    let den : nat_abs f.den ≡ nat_abs b.den = sym (value_den s.good) ∙ ap (λ x. x.den) s.same ∙ value_den q in
    let n : neg_ℤ b.num ≡ a.num *ℤ b.num =
    sym (ap (λ x. x *ℤ b.num) minus ∙ *ℤ_comm (negsuc 0) b.num ∙ *ℤ-negsuc b.num 0 ∙ ap neg_ℤ (times_one_right b.num))
    in
    subst (Answers (Ok f)) (times_is p q (num ∙ n) (den ∙ one_times_den a b whole)) (answers_good s.good)

-- 0 and a fraction make the fraction.
pub plus_nothing : {a b : Fraction} → Good a → Good b → a.num ≡ pos 0 → Answers (Ok b) (plus (value a) (value b))
plus_nothing {a} {b} p q e =
    let whole = zero_den p e in
    let n : b.num ≡ a.num *ℤ b.den +ℤ b.num *ℤ a.den =
    sym (ap₂ ◌+ℤ◌ (ap (λ x. x *ℤ b.den) e ∙ zero-*ℤ b.den) (ap (λ x. b.num *ℤ x) whole ∙ times_one_right b.num) ∙ +ℤ_idl b.num)
    in
    subst (Answers (Ok b)) (plus_is p q n (one_times_den a b whole)) (answers_good q)
