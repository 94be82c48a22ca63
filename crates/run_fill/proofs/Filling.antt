-- How a fill begins and goes on, and that a fill and one from where it ended are one.
-- Main results: `filling_starts`, `filling_goes_on`, `fills_join`. Assume nothing.
use mathlib.Core.Path.{◌≡◌, refl, ap, ◌∙◌}
use mathlib.Core.Logic.{◌⊎◌, inl, inr, ◌≢◌}
use mathlib.Core.List.{List}
use Prim.Native.Nat.{ℕ, ◌+◌, ◌≤◌, ◌<◌}
use native.Mathlib.Decide.{ℕ_discrete, dec_lt}
use native.Mathlib.Omega.{arith}
use lib.ListN.{length, get_or, set, length-set}
use lib.Seq.{get_or-set_same, get_or-set_other}
use lib.IntN.{ℤ, pos}
use Rattle.run_fill.specs.Contract.{Filled}

pub filling_starts : (from : ℕ) (x : ℤ) (list : List ℤ) → Filled from from x list list
filling_starts from x list =
    record { same_length = refl; inside = λ k low high. absurd (omega arith); outside = λ k h. refl }

pub filling_goes_on : (from k : ℕ) (x : ℤ) (before list : List ℤ) → from ≤ k → k < length list → Filled from k x before list → Filled from (k + 1) x before (set list k x)
filling_goes_on from k x before list low high filled =
    record {
      same_length = length-set list k x ∙ filled.same_length;
      inside = λ l l-low l-high. by l l-low l-high (ℕ_discrete l k);
      outside = λ l h. get_or-set_other list k l x (pos 0) (apart l h) ∙ filled.outside l (wider l h);
    }
  where
    by : (l : ℕ) → from ≤ l → l < k + 1 → Dec (l ≡ k) → get_or (set list k x) l (pos 0) ≡ x
    by l l-low l-high (yes same) = ap (λ i. get_or (set list k x) i (pos 0)) same ∙ get_or-set_same list k x (pos 0) high
    by l l-low l-high (no other) = get_or-set_other list k l x (pos 0) other ∙ filled.inside l l-low (omega arith)

    apart : (l : ℕ) → (l < from) ⊎ (k + 1 ≤ l) → l ≢ k
    apart l (inl h) = λ e. omega arith
    apart l (inr h) = λ e. omega arith

    wider : (l : ℕ) → (l < from) ⊎ (k + 1 ≤ l) → (l < from) ⊎ (k ≤ l)
    wider l (inl h) = inl h
    wider l (inr h) = inr (omega arith)

-- A fill, and one from where it ended, are one fill.
pub fills_join : (from middle end : ℕ) {x : ℤ} {before between after : List ℤ} → from ≤ middle → middle ≤ end → Filled from middle x before between → Filled middle end x between after → Filled from end x before after
fills_join from middle end {x} {before} {between} {after} low high first second =
    record {
      same_length = second.same_length ∙ first.same_length;
      inside = λ k k-low k-high. by k k-low k-high (dec_lt k middle);
      outside = λ k h. second.outside k (left_of k h) ∙ first.outside k (right_of k h);
    }
  where
    by : (k : ℕ) → from ≤ k → k < end → Dec (k < middle) → get_or after k (pos 0) ≡ x
    by k k-low k-high (yes early) = second.outside k (inl early) ∙ first.inside k k-low early
    by k k-low k-high (no late) = second.inside k (omega arith) k-high

    left_of : (k : ℕ) → (k < from) ⊎ (end ≤ k) → (k < middle) ⊎ (end ≤ k)
    left_of k (inl h) = inl (omega arith)
    left_of k (inr h) = inr h

    right_of : (k : ℕ) → (k < from) ⊎ (end ≤ k) → (k < from) ⊎ (middle ≤ k)
    right_of k (inl h) = inl h
    right_of k (inr h) = inr (omega arith)
