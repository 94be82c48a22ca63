-- What an overwritten list holds, place by place, and which list that is.
-- Main results: `overwritten_is`, `laid_out_is`. Assume nothing.
use mathlib.Core.Path.{◌≡◌, refl, sym, ap, ◌∙◌}
use mathlib.Core.List.{List, [], ◌∷◌}
use Prim.Native.Nat.{ℕ, zero, suc, ◌/◌, ◌%◌, ◌≤◌, ◌<◌}
use native.Mathlib.Nat.{le_of_suc-le-suc}
use native.Mathlib.Decide.{dec_lt}
use native.Mathlib.Omega.{arith}
use lib.ListN.{length, get_or}
use lib.Seq.{ext_get_or}
use lib.IntN.{ℤ, pos}
use Rattle.rules_run.specs.Row.{COLUMNS, PLACES}
use Rattle.rules_outcome.specs.Outcome.{overwritten, laid_out}

pub overwritten_length : (count : ℕ) (g : ℕ → ℤ) (list : List ℤ) → length (overwritten count g list) ≡ length list
unfolding overwritten
overwritten_length zero g list = refl
overwritten_length (suc count) g [] = refl
overwritten_length (suc count) g (x ∷ list) = ap suc (overwritten_length count (λ p. g (suc p)) list)

pub overwritten_below : (count : ℕ) (g : ℕ → ℤ) (list : List ℤ) (p : ℕ) → p < count → p < length list → get_or (overwritten count g list) p (pos 0) ≡ g p
unfolding overwritten
overwritten_below zero g list p h l = absurd (omega arith)
overwritten_below (suc count) g [] p h l = absurd (omega arith)
overwritten_below (suc count) g (x ∷ list) zero h l = refl
overwritten_below (suc count) g (x ∷ list) (suc p) h l = overwritten_below count (λ q. g (suc q)) list p (le_of_suc-le-suc h) (le_of_suc-le-suc l)

pub overwritten_beyond : (count : ℕ) (g : ℕ → ℤ) (list : List ℤ) (p : ℕ) → count ≤ p → get_or (overwritten count g list) p (pos 0) ≡ get_or list p (pos 0)
unfolding overwritten
overwritten_beyond zero g list p h = refl
overwritten_beyond (suc count) g [] p h = refl
overwritten_beyond (suc count) g (x ∷ list) zero h = absurd (omega arith)
overwritten_beyond (suc count) g (x ∷ list) (suc p) h = overwritten_beyond count (λ q. g (suc q)) list p (le_of_suc-le-suc h)

-- A list of the same length that holds what g gives below `count`, and beyond it what was there, is the overwritten list.
pub overwritten_is : (count : ℕ) (g : ℕ → ℤ) (before after : List ℤ) → length after ≡ length before → ((p : ℕ) → p < count → p < length after → get_or after p (pos 0) ≡ g p) → ((p : ℕ) → count ≤ p → get_or after p (pos 0) ≡ get_or before p (pos 0)) → overwritten count g before ≡ after
overwritten_is count g before after same below beyond =
    ext_get_or (pos 0) (overwritten count g before) after (overwritten_length count g before ∙ sym same) (λ p h. by p h (dec_lt p count))
  where
    by : (p : ℕ) → p < length (overwritten count g before) → Dec (p < count) → get_or (overwritten count g before) p (pos 0) ≡ get_or after p (pos 0)
    by p h (yes low) =
        let size = overwritten_length count g before in
        overwritten_below count g before p low (omega arith) ∙ sym (below p low (omega arith))
    by p h (no high) = let far : count ≤ p = omega arith in overwritten_beyond count g before p far ∙ sym (beyond p far)

-- The same for a list laid out by rows and columns.
pub laid_out_is : (g : (t c : ℕ) → ℤ) (before after : List ℤ) → length after ≡ length before → ((p : ℕ) → p < PLACES → p < length after → get_or after p (pos 0) ≡ g (p / COLUMNS) (p % COLUMNS)) → ((p : ℕ) → PLACES ≤ p → get_or after p (pos 0) ≡ get_or before p (pos 0)) → laid_out g before ≡ after
unfolding laid_out
laid_out_is g before after same below beyond =
    overwritten_is PLACES (λ p. g (p / COLUMNS) (p % COLUMNS)) before after same below beyond
