-- Numbers in decimal: the digit that each step adds, and how many digits there are.
-- Main results: `decimal_digit`, `decimal_step`, `decimal_length`. Assume nothing.
use mathlib.Core.Path.{◌≡◌, refl, sym, ap, ◌∙◌}
use mathlib.Core.Bool.{Bool, true, false}
use mathlib.Core.List.{List, [], ◌∷◌, ◌++◌, append_assoc}
use Prim.Native.Nat.{ℕ, zero, suc, ◌+◌, ◌/◌, ◌%◌, ◌^◌, ◌≤◌, ◌<◌}
use native.Mathlib.Nat.{pow-suc}
use native.Mathlib.Decide.{dec_lt}
use native.Mathlib.Omega.{arith}
use lib.Dec.{ltb}
use lib.ListN.{length, length-append}
use borrow.Author.Tests.{lt-ltb, le-ltb}
use Rattle.rules_listing.specs.Text.{digits, decimal}

-- The last step of the rule, and any other.
digits_last : (most n : ℕ) (rest : List ℕ) → n < 10 → digits (suc most) n rest ≡ (48 + n) ∷ rest
unfolding digits
digits_last most n rest below =
    ap (λ t. elim t as (λ x. List ℕ) [ true ↦ (48 + n) ∷ rest | false ↦ digits most (n / 10) ((48 + n % 10) ∷ rest) ]) (lt-ltb n 10 below)

digits_more : (most n : ℕ) (rest : List ℕ) → 10 ≤ n → digits (suc most) n rest ≡ digits most (n / 10) ((48 + n % 10) ∷ rest)
unfolding digits
digits_more most n rest least =
    ap (λ t. elim t as (λ x. List ℕ) [ true ↦ (48 + n) ∷ rest | false ↦ digits most (n / 10) ((48 + n % 10) ∷ rest) ]) (le-ltb n 10 least)

-- The digits stand before what was there.
digits_before : (most n : ℕ) (rest : List ℕ) → digits most n rest ≡ digits most n [] ++ rest
unfolding digits
digits_before zero n rest = refl
digits_before (suc most) n rest = go (ltb n 10) (digits_before most (n / 10))
  where
    go : (t : Bool) → ((later : List ℕ) → digits most (n / 10) later ≡ digits most (n / 10) [] ++ later)
        → elim t as (λ x. List ℕ) [ true ↦ (48 + n) ∷ rest | false ↦ digits most (n / 10) ((48 + n % 10) ∷ rest) ] ≡ elim t as (λ x. List ℕ) [ true ↦ (48 + n) ∷ [] | false ↦ digits most (n / 10) ((48 + n % 10) ∷ []) ] ++ rest
    go true before = refl
    go false before = before _ ∙ sym (append_assoc (digits most (n / 10) []) ((48 + n % 10) ∷ []) rest) ∙ ap (λ front. front ++ rest) (sym (before _))

-- More steps than are needed make no difference.
digits_enough : (most other n : ℕ) (rest : List ℕ) → n < most → n < other → digits most n rest ≡ digits other n rest
digits_enough zero other n rest enough too = absurd (omega arith)
digits_enough (suc most) zero n rest enough too = absurd (omega arith)
digits_enough (suc most) (suc other) n rest enough too = go (dec_lt n 10) (digits_enough most other (n / 10) _)
  where
    go : Dec (n < 10) → (n / 10 < most → n / 10 < other → digits most (n / 10) ((48 + n % 10) ∷ rest) ≡ digits other (n / 10) ((48 + n % 10) ∷ rest)) → digits (suc most) n rest ≡ digits (suc other) n rest
    go (yes below) later = digits_last most n rest below ∙ sym (digits_last other n rest below)
    go (no least) later = digits_more most n rest (omega arith) ∙ later (omega arith) (omega arith) ∙ sym (digits_more other n rest (omega arith))

-- A number below ten is its digit.
pub decimal_digit : (n : ℕ) → n < 10 → decimal n ≡ (48 + n) ∷ []
unfolding decimal
decimal_digit n below = digits_last n n [] below

-- Any other is a tenth of it, rounded down, and the digit of the rest.
pub decimal_step : (n : ℕ) → 10 ≤ n → decimal n ≡ decimal (n / 10) ++ ((48 + n % 10) ∷ [])
unfolding decimal
decimal_step n least = digits_more n n [] least ∙ digits_enough n (suc (n / 10)) (n / 10) _ (omega arith) (omega arith) ∙ digits_before (suc (n / 10)) (n / 10) _

-- A number below 10 ^ (k + 1) has at most k + 1 digits.
pub decimal_length : (k n : ℕ) → n < 10 ^ suc k → length (decimal n) ≤ suc k
decimal_length zero n below = omega (arith, ap length (decimal_digit n below))
decimal_length (suc k) n below = go (dec_lt n 10) (decimal_length k (n / 10))
  where
    go : Dec (n < 10) → (n / 10 < 10 ^ suc k → length (decimal (n / 10)) ≤ suc k) → length (decimal n) ≤ suc (suc k)
    go (yes small) later = omega (arith, ap length (decimal_digit n small))
    go (no least) later =
        let fewer = later (omega (arith, pow-suc 10 (suc k))) in
        omega (arith, ap length (decimal_step n (omega arith)), length-append (decimal (n / 10)) ((48 + n % 10) ∷ []))
