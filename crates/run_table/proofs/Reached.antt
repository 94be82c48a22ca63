-- A row of which the columns of a set are made anew, and the constant's; and one of whose columns is made before the others.
-- Main definition: `Stored`. Main results: `reached_next`, `reached_out`, `reached_leaves`, `stores`, `stored_sound`, `stored_other`,
-- `row_apart`. Assume nothing.
use mathlib.Core.Path.{◌≡◌, refl, sym, ap, ◌∙◌, subst}
use mathlib.Core.Logic.{◌⊎◌, inl, inr, ◌≢◌}
use mathlib.Core.Bool.{Bool, true, false, not, ◌&&◌, ◌||◌, cond, or-true}
use mathlib.Core.List.{List}
use Prim.Native.Nat.{ℕ, zero, suc, ◌+◌, ◌≤◌, ◌<◌}
use native.Mathlib.Nat.{add-zero, add-suc, suc-add, zero-add}
use native.Mathlib.Decide.{ℕ_discrete, dec_lt}
use native.Mathlib.Omega.{arith}
use borrow.Author.Tests.{eq-eqb, ne_eqb}
use lib.Dec.{eqb}
use lib.IntN.{ℤ}
use lib.ListN.{length, length-set, set as stored_at}
use Rattle.set_members.specs.Sets.{holds}
use Rattle.set_extremes.specs.Extremes.{Next}
use Rattle.fraction.specs.declared.Fraction.{Fraction}
use Rattle.fraction.specs.Exact.{ℚ, zero_ℚ}
use Rattle.answer.specs.declared.Reason.{Reason}
use Rattle.fraction.specs.Made.{Made, made, ◌>>=◌, tab}
use Rattle.fraction_reduce.specs.Values.{value, Good}
use Rattle.rules_run.specs.Row.{COLUMNS, constant, Row, column, row}
use Rattle.run_table.specs.Step.{Step}
use Rattle.run_table.specs.Held.{held_at, row_at, SoundTo}
use Rattle.run_table.specs.Loop.{Kept, RowMade}
use Rattle.run_table.specs.Reached.{reached}
use Rattle.run_table.proofs.Columns.{column_held, kept_then}
use Rattle.run_table.proofs.OverSet.{Leaves}
use Rattle.run_table.proofs.Rows.{held_same, held_other}

module _ (set : ℕ) (h : ℕ → Made Reason ℚ) (r : Row) where
  made_there : {c : ℕ} → (holds set c || eqb c constant) ≡ true → reached set h r c ≡ h c
  unfolding reached
  made_there {c} there = ap (λ b. cond b (h c) (made (column r c))) there

  -- A column of the set is made, and the constant's.
  reached_inside : (c : ℕ) → holds set c ≡ true → reached set h r c ≡ h c
  reached_inside c inside = made_there (ap (λ b. b || eqb c constant) inside)

  reached_constant : (c : ℕ) → c ≡ 64 → reached set h r c ≡ h c
  reached_constant c last = made_there (ap (λ b. holds set c || b) (eq-eqb c 64 last) ∙ or-true (holds set c))

  -- So the next column that the loop comes to is.
  pub reached_next : {from at : ℕ} → Next set from at → reached set h r at ≡ h at
  reached_next {at = at} next = by (dec_lt at 64)
    where
      by : Dec (at < 64) → reached set h r at ≡ h at
      by (yes below) = reached_inside at (next.inside below)
      by (no beyond) = reached_constant at (omega (arith, next.most))

  -- A column of a term that is not in the set stands.
  pub reached_out : (c : ℕ) → c < 64 → holds set c ≡ false → reached set h r c ≡ made (column r c)
  unfolding reached
  reached_out c below out =
      ap (λ b. cond (b || eqb c 64) (h c) (made (column r c))) out ∙ ap (λ b. cond b (h c) (made (column r c))) (ne_eqb c 64 (λ e. omega arith))

-- So the rule leaves what stands there.
pub reached_leaves : (h : ℕ → Made Reason ℚ) (set base : ℕ) (nums dens : List ℤ)
    → Leaves (reached set h (row_at nums dens base)) set base nums dens
reached_leaves h set base nums dens =
    record { stands = λ c below out. reached_out set h (row_at nums dens base) c below out ∙ ap made (column_held nums dens base c (omega arith)) }

-- The fraction f is stored at one place of the lists.
pub record Stored (place : ℕ) (f : Fraction) (nums₀ dens₀ nums dens : List ℤ) : Type 0 where
  pub nums_length : length nums ≡ length nums₀
  pub dens_length : length dens ≡ length dens₀
  pub here : held_at nums dens place ≡ f
  pub others : (k : ℕ) → k ≢ place → held_at nums dens k ≡ held_at nums₀ dens₀ k

pub stores : (place : ℕ) (f : Fraction) (nums₀ dens₀ : List ℤ) {nums dens : List ℤ} → nums ≡ stored_at nums₀ place f.num
    → dens ≡ stored_at dens₀ place f.den → place < length nums₀ → place < length dens₀ → Stored place f nums₀ dens₀ nums dens
stores place f nums₀ dens₀ num den n d =
    rw (num, den)
    record {
      nums_length = length-set nums₀ place f.num;
      dens_length = length-set dens₀ place f.den;
      here = held_same nums₀ dens₀ place f n d;
      others = λ k other. held_other nums₀ dens₀ place k f other;
    }

module _ {place : ℕ} {f : Fraction} {nums₀ dens₀ nums dens : List ℤ} (stored : Stored place f nums₀ dens₀ nums dens) where
  -- What was sound is sound with a good fraction more.
  pub stored_sound : {m : ℕ} → Good f → SoundTo m nums₀ dens₀ → SoundTo m nums dens
  stored_sound {m} good sound = record { good = λ k below. by k below (ℕ_discrete k place) }
    where
      by : (k : ℕ) → k < m → Dec (k ≡ place) → Good (held_at nums dens k)
      by k below (yes same) = subst Good (sym (ap (held_at nums dens) same ∙ stored.here)) good
      by k below (no other) = subst Good (sym (stored.others k other)) (sound.good k below)

  stored_kept : (base end : ℕ) → base ≤ place → place < end → Kept base end nums₀ dens₀ nums dens
  stored_kept base end low high =
      record { nums_length = stored.nums_length; dens_length = stored.dens_length; outside = λ k out. stored.others k (apart k out) }
    where
      apart : (k : ℕ) → (k < base) ⊎ (end ≤ k) → k ≢ place
      apart k (inl before) e = omega arith
      apart k (inr after) e = omega arith

-- Lists whose members are made alike are made alike.
tab_alike {ℓ} : {R : Type 0} {A : Type ℓ} (g h : ℕ → Made R A) (count from : ℕ) → ((i : ℕ) → i < count → g (from + i) ≡ h (from + i)) → tab count from g ≡ tab count from h
unfolding tab ◌>>=◌
tab_alike g h zero from all = refl
tab_alike g h (suc count) from all =
    let here : g from ≡ h from = rw add-zero at (all 0 (omega arith)) in
    let later = tab_alike g h count (suc from) (λ i below. rw (suc-add, ← add-suc) (all (suc i) (omega arith))) in
    rw (here, later)

row_alike : (g h : ℕ → Made Reason ℚ) → ((c : ℕ) → c < 65 → g c ≡ h c) → row g ≡ row h
unfolding row
row_alike g h all = tab_alike g h COLUMNS 0 (λ c below. rw zero-add (all c below))

module _ (p base : ℕ) {f : Fraction} {nums₀ dens₀ nums₁ dens₁ : List ℤ} (unknown : p < 64)
    (stored : Stored (base + p) f nums₀ dens₀ nums₁ dens₁) where
  -- Every other column is what it was.
  pub stored_other : (c : ℕ) → c < 65 → c ≢ p → column (row_at nums₁ dens₁ base) c ≡ column (row_at nums₀ dens₀ base) c
  stored_other c below other =
      column_held nums₁ dens₁ base c below ∙ ap value (stored.others (base + c) (λ e. other (omega arith))) ∙ sym (column_held nums₀ dens₀ base c below)

  -- A rule that makes 0 in column p, makes the columns of the set as h does, and leaves all others: its row is made by 0 in column p
  -- and a loop over the rest.
  module _ {g h : ℕ → Made Reason ℚ} (set others : ℕ) (without : (c : ℕ) → holds others c ≡ (not (eqb c p) && holds set c))
      (nought : value f ≡ zero_ℚ) (solved : g p ≡ made zero_ℚ) (turns : (c : ℕ) → c < 65 → c ≢ p → g c ≡ h c)
      (stands : (c : ℕ) → c < 64 → c ≢ p → holds set c ≡ false → g c ≡ made (column (row_at nums₀ dens₀ base) c)) where
    alike : (c : ℕ) → c < 65 → Dec (c ≡ p) → Dec (c < 64) → g c ≡ reached others h (row_at nums₁ dens₁ base) c
    alike c below (yes same) _ =
        let out : holds others c ≡ false = without c ∙ ap (λ b. not b && holds set c) (eq-eqb c p same) in
        ap g same ∙ solved
        ∙ ap made (sym (ap (column (row_at nums₁ dens₁ base)) same ∙ column_held nums₁ dens₁ base p (omega arith) ∙ ap value stored.here ∙ nought))
        ∙ sym (reached_out others h (row_at nums₁ dens₁ base) c (omega arith) out)
    alike c below (no other) (no last) =
        turns c below other ∙ sym (reached_constant others h (row_at nums₁ dens₁ base) c (omega arith))
    alike c below (no other) (yes term) = by (holds set c) refl
      where
        kept_in : holds others c ≡ holds set c
        kept_in = without c ∙ ap (λ b. not b && holds set c) (ne_eqb c p other)

        by : (b : Bool) → holds set c ≡ b → g c ≡ reached others h (row_at nums₁ dens₁ base) c
        by true inside = turns c below other ∙ sym (reached_inside others h (row_at nums₁ dens₁ base) c (kept_in ∙ inside))
        by false out =
            stands c term other out ∙ ap made (sym (stored_other c below other))
            ∙ sym (reached_out others h (row_at nums₁ dens₁ base) c term (kept_in ∙ out))

    pub row_apart : {m : ℕ} {step : Step} {nums dens : List ℤ}
        → RowMade (reached others h (row_at nums₁ dens₁ base)) base m step nums₁ dens₁ nums dens
        → RowMade g base m step nums₀ dens₀ nums dens
    row_apart turn =
        record {
          ends = row_alike g (reached others h (row_at nums₁ dens₁ base)) (λ c below. alike c below (ℕ_discrete c p) (dec_lt c 64)) ∙ turn.ends;
          kept = kept_then (stored_kept stored base (base + COLUMNS) (omega arith) (omega arith)) turn.kept;
          sound = turn.sound;
        }
