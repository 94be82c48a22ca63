-- Loops that go from column to column of a set, and what the sets of a run say after a step.
-- Main results: `making_skips`, `zero_numerator`, `within_value`, `within_set`, `within_other`, `within_stores`, `within_more`, `within_left`, `within_right`, `stirred_itself`. Assume nothing.
use mathlib.Core.Path.{◌≡◌, refl, sym, ap, ◌∙◌, subst}
use mathlib.Core.Logic.{◌⊎◌, inl, inr, ◌≢◌}
use mathlib.Core.Bool.{Bool, true, false, ◌||◌, false≢true}
use mathlib.Core.List.{List}
use Prim.Native.Nat.{ℕ, ◌+◌, ◌≤◌, ◌<◌}
use native.Mathlib.Decide.{dec_lt}
use native.Mathlib.Omega.{arith}
use lib.ListN.{set}
use lib.Seq.{get_or-set_other}
use lib.IntN.{ℤ, pos}
use mir.Syntax.{w32}
use mir.Val.{of_z}
use Rattle.fraction.specs.declared.Fraction.{Fraction}
use Rattle.fraction.specs.Exact.{ℚ, zero_ℚ}
use Rattle.answer.specs.declared.Reason.{Reason}
use Rattle.fraction.specs.Made.{Made, made}
use Rattle.fraction_reduce.specs.Values.{value, Good}
use Rattle.fraction_reduce.proofs.Tests.{zero_value}
use Rattle.set_members.specs.Sets.{holds}
use Rattle.set_extremes.specs.Extremes.{Next}
use Rattle.run_table.specs.Held.{held_at, SoundTo}
use Rattle.run_table.specs.Loop.{Making}
use Rattle.run_table.specs.Sets.{Within, Stirred}

-- Columns that the rule leaves as they are need no turn.
pub making_skips : {g : ℕ → Made Reason ℚ} {base m j : ℕ} (i : ℕ) {nums₀ dens₀ nums dens : List ℤ} → j ≤ i → ((c : ℕ) → j ≤ c → c < i → g c ≡ made (value (held_at nums₀ dens₀ (base + c)))) → Making g base m j nums₀ dens₀ nums dens → Making g base m i nums₀ dens₀ nums dens
making_skips {g} {base} {m} {j} i {nums₀} {dens₀} {nums} {dens} on stays making =
    record {
      kept = record { nums_length = making.kept.nums_length; dens_length = making.kept.dens_length; outside = λ k h. making.kept.outside k (wider k h) };
      made_below = λ c below. by c below (dec_lt c j);
      sound = making.sound;
    }
  where
    wider : (k : ℕ) → (k < base) ⊎ (base + i ≤ k) → (k < base) ⊎ (base + j ≤ k)
    wider k (inl h) = inl h
    wider k (inr h) = inr (omega arith)

    by : (c : ℕ) → c < i → Dec (c < j) → g c ≡ made (value (held_at nums dens (base + c)))
    by c below (yes passed) = making.made_below c passed
    by c below (no later) = stays c (omega arith) below ∙ ap (λ x. made (value x)) (sym (making.kept.outside (base + c) (inr (omega arith))))

-- A good fraction whose numerator is 0 is 0.
pub zero_numerator : {f : Fraction} → Good f → f.num ≡ pos 0 → value f ≡ zero_ℚ
zero_numerator good none = zero_value good (ap (of_z w32) none)

-- So a column of a term outside the set is 0.
pub within_value : {s base m : ℕ} {nums dens : List ℤ} (c : ℕ) → Within s base nums → SoundTo m nums dens → base + c < m → c < 64 → holds s c ≡ false → value (held_at nums dens (base + c)) ≡ zero_ℚ
within_value {base = base} c within sound room below out = zero_numerator (sound.good (base + c) room) (within.zero c below out)

-- A column of the set may be stored to, and every place outside the row.
pub within_set : {s base : ℕ} {nums : List ℤ} (c : ℕ) (x : ℤ) → holds s c ≡ true → Within s base nums → Within s base (set nums (base + c) x)
within_set {s} {base} {nums} c x inside within =
    record { zero = λ k below out. get_or-set_other nums (base + c) (base + k) x (pos 0) (apart k out) ∙ within.zero k below out }
  where
    apart : (k : ℕ) → holds s k ≡ false → base + k ≢ base + c
    apart k out e =
        let same : k ≡ c = omega arith in
        false≢true (sym out ∙ ap (holds s) same ∙ inside)

pub within_other : {s base : ℕ} {nums : List ℤ} (k : ℕ) (x : ℤ) → (k < base) ⊎ (base + 64 ≤ k) → Within s base nums → Within s base (set nums k x)
within_other {s} {base} {nums} k x away within =
    record { zero = λ c below out. get_or-set_other nums k (base + c) x (pos 0) (apart c below away) ∙ within.zero c below out }
  where
    apart : (c : ℕ) → c < 64 → (k < base) ⊎ (base + 64 ≤ k) → base + c ≢ k
    apart c below (inl h) e = omega arith
    apart c below (inr h) e = omega arith

-- So the turn of a loop that `Next` leads from column to column may store: to a column of the set, or to the constant's.
pub within_stores : {s base from at place : ℕ} (x : ℤ) {nums nums' : List ℤ} → Next s from at → Within s base nums → place ≡ base + at → nums' ≡ set nums place x → Within s base nums'
within_stores {s} {base} {at = at} x {nums = nums} next within there stored =
    subst (Within s base) (sym (stored ∙ ap (λ k. set nums k x) there)) (by (dec_lt at 64))
  where
    by : Dec (at < 64) → Within s base (set nums (base + at) x)
    by (yes below) = within_set at x (next.inside below) within
    by (no beyond) = within_other (base + at) x (inr (omega arith)) within

-- A larger set has room for the row too.
pub within_more : {s r base : ℕ} {nums : List ℤ} → ((c : ℕ) → holds r c ≡ false → holds s c ≡ false) → Within s base nums → Within r base nums
within_more covers within = record { zero = λ c below out. within.zero c below (covers c out) }

neither : (a b : Bool) → (a || b) ≡ false → (a ≡ false) × (b ≡ false)
neither true b e = (e, absurd (false≢true (sym e)))
neither false b e = (refl, e)

module _ (a b : ℕ) {either base : ℕ} {nums : List ℤ} (union : (k : ℕ) → holds either k ≡ (holds a k || holds b k)) where
  -- What is within one of two sets is within their union.
  pub within_left : Within a base nums → Within either base nums
  within_left = within_more (λ c out. (neither (holds a c) (holds b c) (sym (union c) ∙ out)).0)

  pub within_right : Within b base nums → Within either base nums
  within_right = within_more (λ c out. (neither (holds a c) (holds b c) (sym (union c) ∙ out)).1)

-- Where nothing is done, nothing is stirred.
pub stirred_itself : (n : ℕ) (nums dens : List ℤ) (sets : List ℕ) → Stirred n nums dens nums dens sets sets
stirred_itself n nums dens sets =
    record { same_length = refl; links = λ k low high. refl; remembered = λ j h. h; woken = λ t below. inl refl }
