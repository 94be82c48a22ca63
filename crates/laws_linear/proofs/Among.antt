-- A number that avoids finitely many others: each of some conditions forbids one number at most, so among one number more
-- than there are conditions one is free.
-- Main results: `among_but`, `among_pairs`, `free_number`. Assume nothing.
use mathlib.Core.Path.{◌≡◌, refl, sym, ap, ◌∙◌}
use Prim.Native.Nat.{ℕ, zero, suc, ◌+◌, ◌-◌, ◌*◌, ◌/◌, ◌≤◌, ◌<◌}
use native.Mathlib.Nat.{mul-div_cancel, mul-suc, suc-mul}
use native.Mathlib.Omega.{arith}
use Rattle.laws_linear.proofs.Upto.{last_or_before}

-- Among any m + 1 different numbers there is one with the property.
record OneAmong (m : ℕ) (P : ℕ → Type 0) : Type 0 where
  among : (e : ℕ → ℕ) → ((i j : ℕ) → i ≤ m → j ≤ m → e i ≡ e j → i ≡ j) → (i : ℕ) × (i ≤ m) × P (e i)

-- among more numbers there is one with a weaker property
among_more : {m n : ℕ} {P Q : ℕ → Type 0} → m ≤ n → ((q : ℕ) → P q → Q q) → OneAmong m P → OneAmong n Q
among_more more weaker found = record {
  among = λ e different.
      let one = found.among e (λ i j h k. different i j (omega arith) (omega arith)) in
      (one.0, omega (arith, one.1), weaker (e one.0) one.2);
}

-- One number more is enough to avoid a condition that at most one number meets.
among_but : {m : ℕ} {P : ℕ → Type 0} (Bad : ℕ → Type 0) → ((q : ℕ) → Dec (Bad q)) → ((q s : ℕ) → Bad q → Bad s → q ≡ s) → OneAmong m P → OneAmong (suc m) (λ q. P q × (Bad q → ⊥))
among_but {m} {P} Bad test once found = record {
  among = λ e different.
      let one = found.among e (λ i j h k. different i j (omega arith) (omega arith)) in
      by e different one.0 one.1 one.2 (test (e one.0));
}
  where
    by : (e : ℕ → ℕ) → ((i j : ℕ) → i ≤ suc m → j ≤ suc m → e i ≡ e j → i ≡ j) → (one : ℕ) → one ≤ m → P (e one) → Dec (Bad (e one)) → (i : ℕ) × (i ≤ suc m) × (P (e i) × (Bad (e i) → ⊥))
    by e different one h good (no free) = (one, omega arith, (good, free))
    by e different one h good (yes bad) =
        -- the numbers up to m + 1 but the one found
        let skip : ℕ → ℕ = λ i. i + (1 - (one - i)) in
        let other = found.among (λ i. e (skip i)) (λ i j h k same. let skipped : skip i ≡ skip j = different (skip i) (skip j) (omega arith) (omega arith) same in omega arith) in
        let next = other.0 in
        let below : next ≤ m = other.1 in
        (skip next, omega arith, (other.2, λ worse. let same : skip next ≡ one = different (skip next) one (omega arith) (omega arith) (once (e (skip next)) (e one) worse bad) in omega arith))

-- The same for `count` conditions.
among_each : {m : ℕ} {P : ℕ → Type 0} (count : ℕ) (Bad : ℕ → ℕ → Type 0) → ((k q : ℕ) → Dec (Bad k q)) → ((k q s : ℕ) → Bad k q → Bad k s → q ≡ s) → OneAmong m P → OneAmong (m + count) (λ q. P q × ((k : ℕ) → k < count → Bad k q → ⊥))
among_each zero Bad test once found = among_more (omega arith) (λ q good. (good, λ k h. absurd (omega arith))) found
among_each {m} {P} (suc count) Bad test once found =
    among_more (omega arith) (λ q good. (good.0.0, last_or_before {P = λ k. Bad k q → ⊥} count good.1 good.0.1))
    (among_but (Bad count) (test count) (once count) (among_each count Bad test once found))

-- the number of pairs below n
triangle : ℕ → ℕ
triangle zero = 0
triangle (suc n) = triangle n + n

triangle_twice : (k : ℕ) → triangle (suc k) * 2 ≡ suc k * k
unfolding triangle
triangle_twice zero = refl
triangle_twice (suc k) = omega (arith, triangle_twice k, suc-mul (suc k) (suc k), mul-suc (suc k) k)

triangle_half : (n : ℕ) → triangle n ≡ n * (n - 1) / 2
unfolding triangle
triangle_half zero = refl
triangle_half (suc k) =
    let less : k ≡ suc k - 1 = omega arith in
    sym (mul-div_cancel (triangle (suc k)) (omega arith)) ∙ ap (λ x. x / 2) (triangle_twice k) ∙ ap (λ x. suc k * x / 2) less

-- One condition for each pair t < u below n.
among_pairs : (n : ℕ) (Bad : ℕ → ℕ → ℕ → Type 0) → ((t u q : ℕ) → Dec (Bad t u q)) → ((t u q s : ℕ) → Bad t u q → Bad t u s → q ≡ s) → OneAmong (triangle n) (λ q. (t u : ℕ) → t < u → u < n → Bad t u q → ⊥)
unfolding triangle
among_pairs zero Bad test once = record { among = λ e different. (0, omega arith, λ t u h k. absurd (omega arith)) }
among_pairs (suc n) Bad test once =
    among_more (omega arith) (λ q good t u h k. last_or_before {P = λ u. t < u → Bad t u q → ⊥} n (good.1 t) (λ u k h. good.0 t u h k) u k h)
    (among_each n (λ t. Bad t n) (λ t. test t n) (λ t. once t n) (among_pairs n Bad test once))

-- Where each pair below n forbids one number at most, some number up to n(n - 1)/2 is free.
pub free_number : (n : ℕ) (Bad : ℕ → ℕ → ℕ → Type 0) → ((t u q : ℕ) → Dec (Bad t u q)) → ((t u q s : ℕ) → Bad t u q → Bad t u s → q ≡ s) → (q : ℕ) × (q ≤ n * (n - 1) / 2) × ((t u : ℕ) → t < u → u < n → Bad t u q → ⊥)
free_number n Bad test once =
    let one = (among_pairs n Bad test once).among (λ q. q) (λ i j h k same. same) in
    (one.0, omega (arith, one.1, triangle_half n), one.2)
