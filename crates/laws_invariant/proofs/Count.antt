-- Counting the numbers that pass a test.
-- Main results: `count_none`, `count_equal`, `count_at_most`, `count_below`, `count_one_more`. Assume nothing.
use mathlib.Core.Path.{◌≡◌, refl}
use mathlib.Core.Logic.{◌≢◌}
use mathlib.Core.Bool.{Bool, true, false}
use Prim.Native.Nat.{ℕ, zero, suc, ◌≤◌, ◌<◌}
use native.Mathlib.Omega.{arith}
use Rattle.laws_invariant.specs.Invariant.{count}

-- Tests that agree below n count the same.
pub count_equal : (n : ℕ) (test other : ℕ → Bool) → ((c : ℕ) → c < n → test c ≡ other c) → count n test ≡ count n other
unfolding count
count_equal zero test other same = refl
count_equal (suc n) test other same = grind (arith, same 0, count_equal n (λ c. test (suc c)) (λ c. other (suc c)) (λ c below. same (suc c) (omega arith)))

-- A test that none passes counts none.
pub count_none : (n : ℕ) (test : ℕ → Bool) → ((c : ℕ) → c < n → test c ≡ false) → count n test ≡ 0
unfolding count
count_none zero test never = refl
count_none (suc n) test never = grind (arith, never 0, count_none n (λ c. test (suc c)) (λ c below. never (suc c) (omega arith)))

-- A test that passes less counts no more.
pub count_at_most : (n : ℕ) (test other : ℕ → Bool) → ((c : ℕ) → c < n → test c ≡ true → other c ≡ true) → count n test ≤ count n other
unfolding count
count_at_most zero test other less = omega arith
count_at_most (suc n) test other less = grind (arith, less 0, count_at_most n (λ c. test (suc c)) (λ c. other (suc c)) (λ c below. less (suc c) (omega arith)))

-- At most all numbers below n pass.
pub count_below : (n : ℕ) (test : ℕ → Bool) → count n test ≤ n
unfolding count
count_below zero test = omega arith
count_below (suc n) test = grind (arith, count_below n (λ c. test (suc c)))

-- A test that one number more passes counts one more.
pub count_one_more : (n p : ℕ) (test other : ℕ → Bool) → p < n → test p ≡ false → other p ≡ true → ((c : ℕ) → c < n → c ≢ p → other c ≡ test c) → count n other ≡ suc (count n test)
unfolding count
count_one_more zero p test other below before after same = absurd (omega arith)
count_one_more (suc n) zero test other below before after same =
    rw (before, after, count_equal n (λ c. other (suc c)) (λ c. test (suc c)) (λ c below. same (suc c) (omega arith) (omega arith))) (omega arith)
count_one_more (suc n) (suc p) test other below before after same =
    rw (same 0 (omega arith) (omega arith), count_one_more n p (λ c. test (suc c)) (λ c. other (suc c)) (omega arith) before after (λ c below apart. same (suc c) (omega arith) (omega arith))) (omega arith)
