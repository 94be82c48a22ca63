-- The same law of a loop `for at in set_extremes::columns(set)`: what it keeps from turn to turn, and what it leaves.
-- Main definition: `Through`. Main results: `through_starts`, `through_reads`, `through_good`, `through_in_nums`, `through_in_dens`,
-- `through_stores`, `through_passes`, `through_stops`, `through_ends`. Assume nothing.
use Rattle.std.specs.Prelude.{Err, Ok, Result, Option, Some, None, MatchOption}
use mathlib.Core.Path.{◌≡◌, subst}
use mathlib.Core.List.{List}
use Prim.Native.Nat.{ℕ, ◌+◌, ◌≤◌, ◌<◌}
use native.Mathlib.Omega.{arith}
use lib.ListN.{length, set as stored_at}
use lib.IntN.{ℤ}
use Rattle.set_extremes.specs.Extremes.{Next}
use Rattle.set_extremes.specs.Through.{set_left, ColumnTaken}
use Rattle.set_extremes.proofs.Taken.{From, from_starts, from_first, from_rest}
use Rattle.fraction.specs.declared.Fraction.{Fraction}
use Rattle.fraction.specs.Exact.{ℚ}
use Rattle.answer.specs.declared.Reason.{Reason}
use Rattle.fraction.specs.Made as rule
use Rattle.fraction_reduce.specs.Values.{value, Good, Answers}
use Rattle.rules_run.specs.Row.{COLUMNS}
use Rattle.run_table.specs.Held.{held_at, SoundTo}
use Rattle.run_table.proofs.OverSet.{Leaves, Going, Gone, going_starts, going_reads, going_good, going_stores, going_passes, going_stops, going_ends}

-- Before a turn: the columns below c are made, and the loop has yet to come to those of the set from c on and to the constant's; or it has
-- come to all of them.
pub record Through (g : ℕ → rule.Made Reason ℚ) (base m set : ℕ) (left : Option ℕ) (nums₀ dens₀ nums dens : List ℤ) : Type 0 where
  pub c : ℕ
  pub going : Going g base m set c nums₀ dens₀ nums dens
  pub from : From set c (set_left left)
  pub over : MatchOption left (c ≡ COLUMNS) (λ _. c < COLUMNS)

module _ {g : ℕ → rule.Made Reason ℚ} {base m set : ℕ} {nums₀ dens₀ : List ℤ} where
  pub through_starts : {left : Option ℕ} → left ≡ Some set → base + COLUMNS ≤ length nums₀ → base + COLUMNS ≤ length dens₀ → base + COLUMNS ≤ m
      → SoundTo m nums₀ dens₀ → Leaves g set base nums₀ dens₀ → Through g base m set left nums₀ dens₀ nums₀ dens₀
  through_starts begun nums_fit dens_fit sound_fit sound leaves =
      rw begun record { c = 0; going = going_starts nums_fit dens_fit sound_fit sound leaves; from = from_starts set; over = omega arith }

  pub through_ends : {left : Option ℕ} {nums dens : List ℤ} → Through g base m set left nums₀ dens₀ nums dens → left ≡ None
      → Gone g base m set (Ok tt) nums₀ dens₀ nums dens
  through_ends {left} through ended =
      let all : through.c ≡ COLUMNS = subst (λ o. MatchOption o (through.c ≡ COLUMNS) (λ _. through.c < COLUMNS)) ended through.over in
      going_ends through.going (omega arith)

  module _ {left after : Option ℕ} {at : ℕ} {nums dens : List ℤ} (through : Through g base m set left nums₀ dens₀ nums dens) (taken : ColumnTaken left at after) where
    -- A turn comes to the next column of the set, and the columns before it are made.
    small : through.c < COLUMNS
    small = subst (λ o. MatchOption o (through.c ≡ COLUMNS) (λ _. through.c < COLUMNS)) taken.more through.over

    next : Next set through.c at
    next = from_first (omega (arith, small)) through.from taken.first

    pub through_most : at < COLUMNS
    through_most = omega (arith, next.most)

    -- Its place is there, and holds what it held when the loop began.
    pub through_in_nums : base + at < length nums
    through_in_nums = omega (arith, next.most, through.going.nums_fit, through.going.making.kept.nums_length)

    pub through_in_dens : base + at < length dens
    through_in_dens = omega (arith, next.most, through.going.dens_fit, through.going.making.kept.dens_length)

    pub through_reads : held_at nums dens (base + at) ≡ held_at nums₀ dens₀ (base + at)
    through_reads = going_reads through.going next

    pub through_good : {place : ℕ} {x : Fraction} → place ≡ base + at → x ≡ held_at nums dens place → Good x
    through_good = going_good through.going next

    goes_on : {nums' dens' : List ℤ} → Going g base m set (at + 1) nums₀ dens₀ nums' dens' → Through g base m set after nums₀ dens₀ nums' dens'
    goes_on going =
        record {
          c = at + 1;
          going = going;
          from = from_rest (omega (arith, small)) through.from taken.first taken.rest;
          over = by after taken.over;
        }
      where
        by : (after : Option ℕ) → MatchOption after (at ≡ 64) (λ _. at < 64) → MatchOption after (at + 1 ≡ COLUMNS) (λ _. at + 1 < COLUMNS)
        by None last = omega arith
        by (Some rest) less = omega arith

    pub through_stores : {r : Result Fraction Reason} {f : Fraction} {place : ℕ} {nums' dens' : List ℤ} → Answers r (g at) → r ≡ Ok f
        → place ≡ base + at → nums' ≡ stored_at nums place f.num → dens' ≡ stored_at dens place f.den
        → Through g base m set after nums₀ dens₀ nums' dens'
    through_stores answers fits there num den = goes_on (going_stores through.going next answers fits there num den)

    pub through_passes : g at ≡ rule.made (value (held_at nums₀ dens₀ (base + at))) → Through g base m set after nums₀ dens₀ nums dens
    through_passes stands = goes_on (going_passes through.going next stands)

    pub through_stops : {r : Result Fraction Reason} {why : Reason} → Answers r (g at) → r ≡ Err why
        → Gone g base m set (Err why) nums₀ dens₀ nums dens
    through_stops answers refused = going_stops through.going next answers refused
