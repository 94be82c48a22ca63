-- One law for the loops that make a row from column to column of a set, in rising order, and last the constant's, by a rule that makes of
-- every other column what stands there: how such a loop begins, stores a column, passes over one, is refused one, and ends.
-- Main definitions: `Leaves`, `Spared`, `Going`, `Taking`, `Gone`. Main results: `going_starts`, `going_stores`, `going_passes`,
-- `going_stops`, `going_ends`, the same of `taking`, and `gone_within`. Assume nothing.
use Rattle.std.specs.Prelude.{Err, Ok, Result}
use mathlib.Core.Path.{◌≡◌, refl, sym, ap, ◌∙◌, subst}
use mathlib.Core.Logic.{inr, ◌≢◌}
use mathlib.Core.Bool.{false, false≢true}
use mathlib.Core.List.{List}
use Prim.Native.Nat.{ℕ, ◌+◌, ◌-◌, ◌≤◌, ◌<◌}
use native.Mathlib.Omega.{arith}
use lib.ListN.{length, set as stored_at}
use lib.IntN.{ℤ}
use Rattle.set_members.specs.Sets.{holds}
use Rattle.set_extremes.specs.Extremes.{Next, Rest}
use Rattle.set_extremes.proofs.Taken.{From, from_starts, from_first, from_rest}
use Rattle.fraction.specs.declared.Fraction.{Fraction}
use Rattle.fraction.specs.Exact.{ℚ}
use Rattle.answer.specs.declared.Reason.{Reason}
use Rattle.fraction.specs.Made as rule
use Rattle.fraction_reduce.specs.Values.{value, Good, Answers}
use Rattle.rules_run.specs.Row.{TERMS, COLUMNS}
use Rattle.run_table.specs.Step.{Step}
use Rattle.run_table.specs.Held.{held_at, SoundTo}
use Rattle.run_table.specs.Loop.{Making, RowMade}
use Rattle.run_table.specs.Sets.{Within}
use Rattle.run_table.proofs.Rows.{held_other, making_starts}
use Rattle.run_table.proofs.Sparse.{making_skips}
use Rattle.run_table.proofs.Turns.{turn_stores, turn_stops, turns_end}

-- Outside the set, the rule makes of a term's column what stands there.
pub record Leaves (g : ℕ → rule.Made Reason ℚ) (set base : ℕ) (nums dens : List ℤ) : Type 0 where
  pub stands : (c : ℕ) → c < TERMS → holds set c ≡ false → g c ≡ rule.made (value (held_at nums dens (base + c)))

-- Outside the set, a term's column of the row at `base` holds what it held.
pub record Spared (set base : ℕ) (nums₀ dens₀ nums dens : List ℤ) : Type 0 where
  pub same : (c : ℕ) → c < TERMS → holds set c ≡ false → held_at nums dens (base + c) ≡ held_at nums₀ dens₀ (base + c)

-- In such a loop, before a turn: the columns below c are made by the rule g, nothing else has changed, all that was written is in a
-- column of the set or the constant's, and the first m places are sound.
pub record Going (g : ℕ → rule.Made Reason ℚ) (base m set c : ℕ) (nums₀ dens₀ nums dens : List ℤ) : Type 0 where
  pub reach : c ≤ COLUMNS
  pub nums_fit : base + COLUMNS ≤ length nums₀
  pub dens_fit : base + COLUMNS ≤ length dens₀
  pub sound_fit : base + COLUMNS ≤ m
  pub leaves : Leaves g set base nums₀ dens₀
  pub making : Making g base m c nums₀ dens₀ nums dens
  pub spared : Spared set base nums₀ dens₀ nums dens

-- The same of a loop that keeps the rest of the set: `rest` has its numbers from c on.
pub record Taking (g : ℕ → rule.Made Reason ℚ) (base m set c rest : ℕ) (nums₀ dens₀ nums dens : List ℤ) : Type 0 where
  pub going : Going g base m set c nums₀ dens₀ nums dens
  pub from : From set c rest

-- The loop is over: the row is the one that the rule makes, or the rule refuses it, and outside the set nothing was written.
pub record Gone (g : ℕ → rule.Made Reason ℚ) (base m set : ℕ) (step : Step) (nums₀ dens₀ nums dens : List ℤ) : Type 0 where
  pub row_made : RowMade g base m step nums₀ dens₀ nums dens
  pub spared : Spared set base nums₀ dens₀ nums dens

module _ {g : ℕ → rule.Made Reason ℚ} {base m set : ℕ} {nums₀ dens₀ : List ℤ} where
  pub going_starts : base + COLUMNS ≤ length nums₀ → base + COLUMNS ≤ length dens₀ → base + COLUMNS ≤ m → SoundTo m nums₀ dens₀
      → Leaves g set base nums₀ dens₀ → Going g base m set 0 nums₀ dens₀ nums₀ dens₀
  going_starts nums_fit dens_fit sound_fit sound leaves =
      record {
        reach = omega arith;
        nums_fit = nums_fit;
        dens_fit = dens_fit;
        sound_fit = sound_fit;
        leaves = leaves;
        making = making_starts g base m nums₀ dens₀ sound;
        spared = record { same = λ c below out. refl };
      }

  module _ {c at : ℕ} {nums dens : List ℤ} (going : Going g base m set c nums₀ dens₀ nums dens) (next : Next set c at) where
    -- The columns before the next of the set need no turn.
    going_skips : Making g base m at nums₀ dens₀ nums dens
    going_skips =
        making_skips at next.forward (λ k above below. going.leaves.stands k (omega (arith, next.most)) (next.none_between k above below)) going.making

    -- From there on the lists hold what they held when the loop began, and it is good.
    pub going_reads : held_at nums dens (base + at) ≡ held_at nums₀ dens₀ (base + at)
    going_reads = going_skips.kept.outside (base + at) (inr (omega arith))

    pub going_good : {place : ℕ} {x : Fraction} → place ≡ base + at → x ≡ held_at nums dens place → Good x
    going_good there here = subst Good (sym (here ∙ ap (held_at nums dens) there)) (going.making.sound.good (base + at) (omega (arith, next.most, going.sound_fit)))

    apart : (k : ℕ) → k < TERMS → holds set k ≡ false → base + k ≢ base + at
    apart k below out e =
        let here : k ≡ at = omega arith in
        false≢true (sym out ∙ ap (holds set) here ∙ next.inside (omega arith))

    -- A turn stores what answers the rule's column: one column more is made.
    pub going_stores : {r : Result Fraction Reason} {f : Fraction} {place : ℕ} {nums' dens' : List ℤ} → Answers r (g at) → r ≡ Ok f → place ≡ base + at
        → nums' ≡ stored_at nums place f.num → dens' ≡ stored_at dens place f.den
        → Going g base m set (at + 1) nums₀ dens₀ nums' dens'
    going_stores {f = f} {place} answers fits there num den =
        let kept = going.making.kept in
        let in-nums : place < length nums = omega (arith, next.most, going.nums_fit, kept.nums_length) in
        let in-dens : place < length dens = omega (arith, next.most, going.dens_fit, kept.dens_length) in
        record {
          reach = omega (arith, next.most);
          nums_fit = going.nums_fit;
          dens_fit = going.dens_fit;
          sound_fit = going.sound_fit;
          leaves = going.leaves;
          making = turn_stores going_skips answers fits there in-nums in-dens num den;
          spared = record { same = λ k below out. rw (num, den, there) (held_other nums dens (base + at) (base + k) f (apart k below out)) ∙ going.spared.same k below out };
        }

    -- A turn passes over a column of which the rule makes what stands there.
    pub going_passes : g at ≡ rule.made (value (held_at nums₀ dens₀ (base + at))) → Going g base m set (at + 1) nums₀ dens₀ nums dens
    going_passes stands =
        record {
          reach = omega (arith, next.most);
          nums_fit = going.nums_fit;
          dens_fit = going.dens_fit;
          sound_fit = going.sound_fit;
          leaves = going.leaves;
          making = making_skips (at + 1) (omega arith) (λ k above below. let here : k ≡ at = omega arith in rw here stands) going_skips;
          spared = going.spared;
        }

    -- A turn is refused its column: so is the row.
    pub going_stops : {r : Result Fraction Reason} {why : Reason} → Answers r (g at) → r ≡ Err why
        → Gone g base m set (Err why) nums₀ dens₀ nums dens
    going_stops answers refused = record { row_made = turn_stops going_skips answers refused (omega (arith, next.most)); spared = going.spared }

  -- After the constant's column the row is made.
  pub going_ends : {c : ℕ} {nums dens : List ℤ} → Going g base m set c nums₀ dens₀ nums dens → COLUMNS ≤ c
      → Gone g base m set (Ok tt) nums₀ dens₀ nums dens
  going_ends going over = record { row_made = turns_end going.making going.reach over; spared = going.spared }

  -- The same of a loop that keeps the rest of the set.
  pub taking_starts : base + COLUMNS ≤ length nums₀ → base + COLUMNS ≤ length dens₀ → base + COLUMNS ≤ m → SoundTo m nums₀ dens₀
      → Leaves g set base nums₀ dens₀ → Taking g base m set 0 set nums₀ dens₀ nums₀ dens₀
  taking_starts nums_fit dens_fit sound_fit sound leaves = record { going = going_starts nums_fit dens_fit sound_fit sound leaves; from = from_starts set }

  module _ {c rest at : ℕ} {nums dens : List ℤ} (taking : Taking g base m set c rest nums₀ dens₀ nums dens) (more : c < COLUMNS)
      (first : Next rest 0 at) where
    -- The least of the rest is the next of the set.
    pub taking_next : Next set c at
    taking_next = from_first (omega arith) taking.from first

    -- Its place is there.
    pub taking_in_nums : base + at < length nums
    taking_in_nums = omega (arith, first.most, taking.going.nums_fit, taking.going.making.kept.nums_length)

    pub taking_in_dens : base + at < length dens
    taking_in_dens = omega (arith, first.most, taking.going.dens_fit, taking.going.making.kept.dens_length)

    -- Each turn leaves fewer columns to come to.
    pub taking_less : COLUMNS - (at + 1) < COLUMNS - c
    taking_less = omega (arith, taking_next.forward, first.most)

    pub taking_stores : {after : ℕ} {r : Result Fraction Reason} {f : Fraction} {place : ℕ} {nums' dens' : List ℤ} → Rest rest after → Answers r (g at)
        → r ≡ Ok f → place ≡ base + at → nums' ≡ stored_at nums place f.num → dens' ≡ stored_at dens place f.den
        → Taking g base m set (at + 1) after nums₀ dens₀ nums' dens'
    taking_stores left answers fits there num den =
        record { going = going_stores taking.going taking_next answers fits there num den; from = from_rest (omega arith) taking.from first left }

    pub taking_passes : {after : ℕ} → Rest rest after → g at ≡ rule.made (value (held_at nums₀ dens₀ (base + at)))
        → Taking g base m set (at + 1) after nums₀ dens₀ nums dens
    taking_passes left stands = record { going = going_passes taking.going taking_next stands; from = from_rest (omega arith) taking.from first left }

    pub taking_stops : {r : Result Fraction Reason} {why : Reason} → Answers r (g at) → r ≡ Err why
        → Gone g base m set (Err why) nums₀ dens₀ nums dens
    taking_stops answers refused = going_stops taking.going taking_next answers refused

  pub taking_ends : {c rest : ℕ} {nums dens : List ℤ} → Taking g base m set c rest nums₀ dens₀ nums dens → COLUMNS ≤ c
      → Gone g base m set (Ok tt) nums₀ dens₀ nums dens
  taking_ends taking over = going_ends taking.going over

-- A row that was within the set before the loop is so after it.
pub gone_within : {g : ℕ → rule.Made Reason ℚ} {base m set : ℕ} {step : Step} {nums₀ dens₀ nums dens : List ℤ}
    → Gone g base m set step nums₀ dens₀ nums dens → Within set base nums₀ → Within set base nums
gone_within gone within = record { zero = λ c below out. ap (λ f. f.num) (gone.spared.same c below out) ∙ within.zero c below out }
