-- Loops over the columns of one row: how they begin, go on, end and stop.
-- Main results: `tab_listed`, `making_starts`, `making_goes_on`, `making_ends`, `making_stops`. Assume nothing.
use Rattle.std.specs.Prelude.{Err, Ok}
use mathlib.Core.Path.{◌≡◌, refl, sym, ap, ◌∙◌, subst}
use mathlib.Core.Logic.{◌⊎◌, inl, inr, ◌≢◌}
use mathlib.Core.List.{List}
use Prim.Native.Nat.{ℕ, zero, suc, ◌+◌, ◌≤◌, ◌<◌}
use native.Mathlib.Nat.{add-zero, add-suc, suc-add, zero-add}
use native.Mathlib.Decide.{ℕ_discrete}
use native.Mathlib.Omega.{arith}
use lib.ListN.{length, set, length-set}
use lib.Seq.{get_or-set_same, get_or-set_other}
use lib.IntN.{ℤ, pos}
use Rattle.fraction.specs.declared.Fraction.{Fraction}
use Rattle.fraction.specs.Exact.{ℚ}
use Rattle.answer.specs.declared.Reason.{Reason}
use Rattle.fraction.specs.Made.{Made, made, stopped, ◌>>=◌, tab}
use Rattle.fraction.proofs.Making.{tab_stopped}
use Rattle.fraction_reduce.specs.Values.{value, Good}
use Rattle.rules_run.specs.Row.{COLUMNS, row}
use Rattle.run_table.specs.Held.{held_at, listed_from, row_at, SoundTo, stepped}
use Rattle.run_table.specs.Loop.{Making, RowMade}

-- A list each of whose members is made is made of them.
pub tab_listed {ℓ} : {R : Type 0} {A : Type ℓ} (g : ℕ → Made R A) (f : ℕ → A) (count from : ℕ) → ((i : ℕ) → i < count → g (from + i) ≡ made (f (from + i))) → tab count from g ≡ made (listed_from count from f)
unfolding tab listed_from ◌>>=◌
tab_listed g f zero from all = refl
tab_listed g f (suc count) from all =
    let here : g from ≡ made (f from) = rw add-zero at (all 0 (omega arith)) in
    let later = tab_listed g f count (suc from) (λ i below. rw (suc-add, ← add-suc) (all (suc i) (omega arith))) in
    rw (here, later)

-- A place stored to holds what was stored; any other place what it held.
pub held_same : (nums dens : List ℤ) (k : ℕ) (f : Fraction) → k < length nums → k < length dens → held_at (set nums k f.num) (set dens k f.den) k ≡ f
held_same nums dens k f n d = λ i. record { num = get_or-set_same nums k f.num (pos 0) n i; den = get_or-set_same dens k f.den (pos 0) d i }

pub held_other : (nums dens : List ℤ) (k l : ℕ) (f : Fraction) → l ≢ k → held_at (set nums k f.num) (set dens k f.den) l ≡ held_at nums dens l
held_other nums dens k l f h =
    λ i. record { num = get_or-set_other nums k l f.num (pos 0) h i; den = get_or-set_other dens k l f.den (pos 0) h i }

-- A good fraction stored anywhere leaves what is sound sound.
pub sound_set : (m : ℕ) (nums dens : List ℤ) (k : ℕ) (f : Fraction) → k < length nums → k < length dens → Good f → SoundTo m nums dens → SoundTo m (set nums k f.num) (set dens k f.den)
sound_set m nums dens k f n d good sound = record { good = λ l below. by l below (ℕ_discrete l k) }
  where
    by : (l : ℕ) → l < m → Dec (l ≡ k) → Good (held_at (set nums k f.num) (set dens k f.den) l)
    by l below (yes same) = subst Good (sym (ap (held_at (set nums k f.num) (set dens k f.den)) same ∙ held_same nums dens k f n d)) good
    by l below (no other) = subst Good (sym (held_other nums dens k l f other)) (sound.good l below)

module _ (g : ℕ → Made Reason ℚ) (base m : ℕ) (nums₀ dens₀ : List ℤ) where
  pub making_starts : SoundTo m nums₀ dens₀ → Making g base m 0 nums₀ dens₀ nums₀ dens₀
  making_starts sound =
      record {
        kept = record { nums_length = refl; dens_length = refl; outside = λ k h. refl };
        made_below = λ c below. absurd (omega arith);
        sound = sound;
      }

  -- One column more: what the rule makes of it is stored.
  pub making_goes_on : {nums dens : List ℤ} (j : ℕ) (f : Fraction) → base + j < length nums → base + j < length dens → Good f → g j ≡ made (value f) → Making g base m j nums₀ dens₀ nums dens → Making g base m (j + 1) nums₀ dens₀ (set nums (base + j) f.num) (set dens (base + j) f.den)
  making_goes_on {nums} {dens} j f n d good made-here making =
      record {
        kept =
            record {
              nums_length = length-set nums (base + j) f.num ∙ making.kept.nums_length;
              dens_length = length-set dens (base + j) f.den ∙ making.kept.dens_length;
              outside = λ k h. held_other nums dens (base + j) k f (apart k h) ∙ making.kept.outside k (wider k h);
            };
        made_below = λ c below. by c below (ℕ_discrete c j);
        sound = sound_set m nums dens (base + j) f n d good making.sound;
      }
    where
      apart : (k : ℕ) → (k < base) ⊎ (base + (j + 1) ≤ k) → k ≢ base + j
      apart k (inl h) = λ e. omega arith
      apart k (inr h) = λ e. omega arith

      wider : (k : ℕ) → (k < base) ⊎ (base + (j + 1) ≤ k) → (k < base) ⊎ (base + j ≤ k)
      wider k (inl h) = inl h
      wider k (inr h) = inr (omega arith)

      by : (c : ℕ) → c < j + 1 → Dec (c ≡ j) → g c ≡ made (value (held_at (set nums (base + j) f.num) (set dens (base + j) f.den) (base + c)))
      by c below (yes same) =
          ap g same ∙ made-here ∙ ap (λ x. made (value x)) (sym (ap (λ x. held_at (set nums (base + j) f.num) (set dens (base + j) f.den) (base + x)) same ∙ held_same nums dens (base + j) f n d))
      by c below (no other) =
          making.made_below c (omega arith) ∙ ap (λ x. made (value x)) (sym (held_other nums dens (base + j) (base + c) f (λ e. other (omega arith))))

  -- All columns are made: the row is.
  pub making_ends : {nums dens : List ℤ} → Making g base m COLUMNS nums₀ dens₀ nums dens → RowMade g base m (Ok tt) nums₀ dens₀ nums dens
  unfolding row row_at stepped
  making_ends {nums} {dens} making =
      record {
        ends = tab_listed g (λ c. value (held_at nums dens (base + c))) COLUMNS 0 (λ i below. rw zero-add (making.made_below i below));
        kept = making.kept;
        sound = making.sound;
      }

  -- The rule refuses a column: it refuses the row.
  pub making_stops : {nums dens : List ℤ} (j : ℕ) (why : Reason) → j < COLUMNS → g j ≡ stopped why → Making g base m j nums₀ dens₀ nums dens → RowMade g base m (Err why) nums₀ dens₀ nums dens
  unfolding row stepped
  making_stops {nums} {dens} j why below stops making =
      record {
        ends = tab_stopped g COLUMNS 0 j why below (λ c h. (value (held_at nums dens (base + c)), rw zero-add (making.made_below c h))) (rw zero-add stops);
        kept = record { nums_length = making.kept.nums_length; dens_length = making.kept.dens_length; outside = λ k h. making.kept.outside k (wider k h) };
        sound = making.sound;
      }
    where
      wider : (k : ℕ) → (k < base) ⊎ (base + COLUMNS ≤ k) → (k < base) ⊎ (base + j ≤ k)
      wider k (inl h) = inl h
      wider k (inr h) = inr (omega arith)
