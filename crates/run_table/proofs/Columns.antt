-- What the rows and the table read from the lists hold, and when they stay the same.
-- Main results: `listed_member`, `listed_same`, `column_held`, `column_first`, `row_held_lem`, `table_length`, `row_same`, `sound_zeros`, `kept_itself`, `kept_row`, `kept_within`, `kept_then`, `sound_fewer`, `sound_beyond`. Assume nothing.
use mathlib.Core.Path.{◌≡◌, refl, sym, ap, ap₂, ◌∙◌, subst}
use mathlib.Core.Logic.{◌⊎◌, inl, inr}
use mathlib.Core.List.{List, [], ◌∷◌}
use Prim.Native.Nat.{ℕ, zero, suc, ◌+◌, ◌*◌, ◌≤◌, ◌<◌}
use native.Mathlib.Nat.{add-zero, add-suc, suc-add, zero-add}
use native.Mathlib.Decide.{dec_lt}
use native.Mathlib.Omega.{arith}
use lib.ListN.{length, get_or, replicate, get_or-replicate}
use lib.IntN.{ℤ, pos}
use Rattle.fraction.specs.Exact.{zero_ℚ}
use Rattle.fraction_reduce.specs.Values.{value, Good}
use Rattle.fraction_reduce.proofs.Tests.{zero_stands}
use Rattle.rules_run.specs.Row.{COLUMNS, column, row_of}
use Rattle.run_table.specs.Held.{held_at, listed_from, row_at, table_at, SoundTo}
use Rattle.run_table.specs.Loop.{Kept}

pub listed_length {ℓ} : {A : Type ℓ} (g : ℕ → A) (count from : ℕ) → length (listed_from count from g) ≡ count
unfolding listed_from
listed_length g zero from = refl
listed_length g (suc count) from = ap suc (listed_length g count (suc from))

-- Each member of a list is what g gives at its index.
pub listed_member {ℓ} : {A : Type ℓ} (g : ℕ → A) (d : A) (count from i : ℕ) → i < count → get_or (listed_from count from g) i d ≡ g (from + i)
unfolding listed_from
listed_member g d zero from i below = absurd (omega arith)
listed_member g d (suc count) from zero below = rw add-zero
listed_member g d (suc count) from (suc i) below = rw (add-suc, ← suc-add) (listed_member g d count (suc from) i (omega arith))

-- Lists with the same members are the same.
pub listed_same {ℓ} : {A : Type ℓ} (g h : ℕ → A) (count from : ℕ) → ((i : ℕ) → i < count → g (from + i) ≡ h (from + i)) → listed_from count from g ≡ listed_from count from h
unfolding listed_from
listed_same g h zero from all = refl
listed_same g h (suc count) from all =
    ap₂ ◌∷◌ (rw add-zero at (all 0 (omega arith))) (listed_same g h count (suc from) (λ i below. rw (suc-add, ← add-suc) (all (suc i) (omega arith))))

-- A row's column is the value of what stands there.
pub column_held : (nums dens : List ℤ) (base c : ℕ) → c < COLUMNS → column (row_at nums dens base) c ≡ value (held_at nums dens (base + c))
unfolding column row_at
column_held nums dens base c below = listed_member (λ i. value (held_at nums dens (base + i))) zero_ℚ COLUMNS 0 c below ∙ rw zero-add

-- the same of a row that starts at place 0
pub column_first : (nums dens : List ℤ) (c : ℕ) → c < 65 → column (row_at nums dens 0) c ≡ value (held_at nums dens c)
column_first nums dens c below = column_held nums dens 0 c below ∙ ap (λ k. value (held_at nums dens k)) (zero-add c)

-- A table's row is the one that stands there.
pub row_held_lem : (n : ℕ) (nums dens : List ℤ) (t : ℕ) → t < n → row_of (table_at n nums dens) t ≡ row_at nums dens (COLUMNS * t)
unfolding row_of table_at
row_held_lem n nums dens t below = listed_member (λ s. row_at nums dens (COLUMNS * s)) [] n 0 t below ∙ rw zero-add

pub table_length : (n : ℕ) (nums dens : List ℤ) → length (table_at n nums dens) ≡ n
unfolding table_at
table_length n nums dens = listed_length (λ t. row_at nums dens (COLUMNS * t)) n 0

-- Rows whose places hold the same are the same.
pub row_same : (nums dens nums' dens' : List ℤ) (base : ℕ) → ((c : ℕ) → c < COLUMNS → held_at nums dens (base + c) ≡ held_at nums' dens' (base + c)) → row_at nums dens base ≡ row_at nums' dens' base
unfolding row_at
row_same nums dens nums' dens' base all =
    listed_same (λ c. value (held_at nums dens (base + c))) (λ c. value (held_at nums' dens' (base + c))) COLUMNS 0 (λ c below. rw zero-add (ap value (all c below)))

-- Zeros, held as 0/1, are sound.
pub sound_zeros : (m : ℕ) → SoundTo m (replicate m (pos 0)) (replicate m (pos 1))
sound_zeros m = record { good = λ k below. (zero_stands (get_or-replicate m k (pos 0) (pos 0) below) (get_or-replicate m k (pos 1) (pos 0) below)).good }

-- Lists that nothing changes keep all that they hold.
pub kept_itself : (base end : ℕ) (nums dens : List ℤ) → Kept base end nums dens nums dens
kept_itself base end nums dens = record { nums_length = refl; dens_length = refl; outside = λ k out. refl }

-- What is sound is sound in fewer places.
pub sound_fewer : (m : ℕ) {l : ℕ} {nums dens : List ℤ} → m ≤ l → SoundTo l nums dens → SoundTo m nums dens
sound_fewer m less sound = record { good = λ k below. sound.good k (omega arith) }

module _ {base end : ℕ} {nums₀ dens₀ nums dens : List ℤ} where
  -- A row outside the places that may change keeps what it holds.
  pub kept_row : Kept base end nums₀ dens₀ nums dens → (at : ℕ) → (at + COLUMNS ≤ base) ⊎ (end ≤ at) → row_at nums dens at ≡ row_at nums₀ dens₀ at
  kept_row kept at (inl before) = row_same nums dens nums₀ dens₀ at (λ c below. kept.outside (at + c) (inl (omega arith)))
  kept_row kept at (inr after) = row_same nums dens nums₀ dens₀ at (λ c below. kept.outside (at + c) (inr (omega arith)))

  -- Fewer places may change than those of a wider part.
  pub kept_within : Kept base end nums₀ dens₀ nums dens → (low high : ℕ) → low ≤ base → end ≤ high → Kept low high nums₀ dens₀ nums dens
  kept_within kept low high l h = record { nums_length = kept.nums_length; dens_length = kept.dens_length; outside = λ k out. kept.outside k (by k out) }
    where
      by : (k : ℕ) → (k < low) ⊎ (high ≤ k) → (k < base) ⊎ (end ≤ k)
      by k (inl before) = inl (omega arith)
      by k (inr after) = inr (omega arith)

  -- One change after another.
  pub kept_then : Kept base end nums₀ dens₀ nums dens → {nums' dens' : List ℤ} → Kept base end nums dens nums' dens' → Kept base end nums₀ dens₀ nums' dens'
  kept_then first second =
      record {
        nums_length = second.nums_length ∙ first.nums_length;
        dens_length = second.dens_length ∙ first.dens_length;
        outside = λ k out. second.outside k out ∙ first.outside k out;
      }

  -- What was sound stays sound, where the places that changed are.
  pub sound_beyond : (m : ℕ) → Kept base end nums₀ dens₀ nums dens → SoundTo end nums dens → SoundTo m nums₀ dens₀ → SoundTo m nums dens
  sound_beyond m kept here sound = record { good = λ k below. by k below (dec_lt k end) }
    where
      by : (k : ℕ) → k < m → Dec (k < end) → Good (held_at nums dens k)
      by k below (yes inside) = here.good k inside
      by k below (no after) = subst Good (sym (kept.outside k (inr (omega arith)))) (sound.good k below)
