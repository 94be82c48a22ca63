-- The row of an unknown or of a constant is one place of a blank row; the other terms combine earlier rows.
-- Main definition: `Unknown`. Main results: `alone_stands`, `unknown_placed`, `unknown_stands`, `unknown_makes`, `constant_makes`. Assume nothing.
use Rattle.std.specs.Prelude.{Ok}
use mathlib.Core.Path.{◌≡◌, refl, sym, ap, ◌∙◌, subst, fun_ext}
use mathlib.Core.Logic.{◌⊎◌, inl, inr, ◌≢◌}
use mathlib.Core.Bool.{Bool, true, false, cond}
use mathlib.Core.List.{List}
use Prim.Native.Nat.{ℕ, ◌+◌, ◌*◌, ◌<◌}
use native.Mathlib.Decide.{dec_lt}
use native.Mathlib.Omega.{arith}
use borrow.Author.Tests.{eq-eqb, ne_eqb}
use lib.ListN.{set}
use lib.IntN.{ℤ, pos}
use Rattle.set_members.specs.Sets.{holds}
use Rattle.fraction.specs.declared.Fraction.{Fraction}
use Rattle.fraction.specs.declared.Scaled.{Scaled}
use Rattle.fraction.specs.Exact.{ℚ, worth, zero_ℚ, one_ℚ}
use Rattle.fraction_reduce.specs.Values.{value}
use Rattle.answer.specs.declared.Reason.{Reason}
use Rattle.fraction.specs.Made.{Made, made}
use Rattle.fraction.proofs.Field.{one_not_zero}
use Rattle.fraction_reduce.proofs.Tests.{zero_stands}
use Rattle.rules_problem.specs.declared.Kind.{Kind}
use Rattle.rules_problem.specs.declared.Kind.TheVariants.{Variable, Constant, Lookup1, Lookup2, Lookup3}
use Rattle.rules_run.specs.Row.{COLUMNS, TERMS, constant}
use Rattle.rules_run.specs.Build.{alone, built_column}
use Rattle.run_table.specs.Step.{Step}
use Rattle.run_table.specs.Lists.{Lists, both}
use Rattle.run_table.specs.Loop.{RowMade}
use Rattle.run_table.specs.Sets.{Within}
use Rattle.run_table.proofs.Rows.{making_starts, making_goes_on}
use Rattle.run_table.proofs.Sparse.{making_skips, within_set, within_other}
use Rattle.run_table.proofs.Turns.{turns_end}
use Rattle.run_build_row.specs.Contract.{column_built, cell_at, Blanked, Placeable, StandsAlone, Makeable, Makes}
use Rattle.run_build_row.specs.Sparse.{Covered}
use Rattle.run_build_row.proofs.Building.{row_made_built}
use Rattle.run_build_row.proofs.Columns.{one_stands}
use Rattle.run_build_row.proofs.Inputs.{constant_holds}
use Rattle.run_build_row.proofs.Sparse.{blank_sound, blank_within}

module _ {t only : ℕ} {f : Fraction} {l : Lists} (asked : Placeable t only f l) where
  -- the rule of such a row
  abbrev rule : ℕ → Made Reason ℚ
  rule c = made (alone only (value f) c)

  -- it makes 0 of the other columns, and they hold it
  others : (c : ℕ) → c < COLUMNS → c ≢ only → rule c ≡ made (value (cell_at t c l))
  unfolding alone
  others c below other =
      let blank = asked.row.blank in
      ap (λ b. made (cond b (value f) zero_ℚ)) (ne_eqb c only other) ∙ ap made (sym (zero_stands (blank.num c below) (blank.den c below)).same)

  here : rule only ≡ made (value f)
  unfolding alone
  here = ap (λ b. made (cond b (value f) zero_ℚ)) (eq-eqb only only refl)

  -- One place is stored: the row is made, and it has no columns but that one.
  pub alone_stands : {nums dens : List ℤ} → nums ≡ set l.nums (COLUMNS * t + only) f.num → dens ≡ set l.dens (COLUMNS * t + only) f.den → StandsAlone t only (value f) (Ok tt) l (both nums dens)
  alone_stands num den = rw (num, den) (record { row_made = made_row; within = λ columns held. by columns held (dec_lt only TERMS) })
    where
      made_row : RowMade rule (COLUMNS * t) (COLUMNS * (t + 1)) (Ok tt) l.nums l.dens (set l.nums (COLUMNS * t + only) f.num) (set l.dens (COLUMNS * t + only) f.den)
      made_row =
          let room = asked.row.rows.room in
          let inside = asked.column in
          let begun = making_starts rule (COLUMNS * t) (COLUMNS * (t + 1)) l.nums l.dens (blank_sound asked.row.blank asked.row.rows.sound) in
          let before = making_skips only (omega arith) (λ c above below. others c (omega arith) (λ e. omega arith)) begun in
          let stored = making_goes_on rule (COLUMNS * t) (COLUMNS * (t + 1)) l.nums l.dens only f (omega (arith, room.few, room.nums_fit)) (omega (arith, room.few, room.dens_fit)) asked.good here before in
          turns_end (making_skips COLUMNS (omega arith) (λ c above below. others c below (λ e. omega arith)) stored) (omega arith) (omega arith)

      by : (columns : ℕ) → (only < TERMS → holds columns only ≡ true) → Dec (only < TERMS) → Within columns (COLUMNS * t) (set l.nums (COLUMNS * t + only) f.num)
      by columns held (yes below) = within_set only f.num (held below) (blank_within asked.row.blank columns)
      by columns held (no beyond) = within_other (COLUMNS * t + only) f.num (inr (omega arith)) (blank_within asked.row.blank columns)

-- 1 may be placed in a blank row's own column, and stands alone there as the fraction 1/1.
abbrev one : Fraction
one = record { num = pos 1; den = pos 1 }

pub unknown_placed : {t : ℕ} {l : Lists} → Blanked t l → Placeable t t one l
unknown_placed row = let few = row.rows.room.few in record { row = row; column = omega arith; good = one_stands.good }

pub unknown_stands : {t : ℕ} {step : Step} {old new : Lists} → StandsAlone t t (value one) step old new → StandsAlone t t one_ℚ step old new
unknown_stands {t} {step} {old} {new} stands = subst (λ q. StandsAlone t t q step old new) one_stands.same stands

-- A column of which the rule makes 1 is in the set.
pub covered_one : {columns : ℕ} {rule : ℕ → Made Reason ℚ} → Covered columns rule → (c : ℕ) → c < TERMS → rule c ≡ made one_ℚ → holds columns c ≡ true
covered_one {columns} {rule} covered c below one = by (holds columns c) refl
  where
    by : (b : Bool) → holds columns c ≡ b → holds columns c ≡ true
    by true e = e
    by false e =
        let same : ◌≡◌ {A = Made Reason ℚ} (made one_ℚ) (made zero_ℚ) = sym one ∙ covered.zero c below e in
        let equal : one_ℚ ≡ zero_ℚ = cc in
        absurd (one_not_zero equal)

-- a variable or a lookup, as a match on the kind finds it
abbrev pub Unknown : Kind → Type 0
Unknown kind =
    ((symbol : ℕ) × (kind ≡ Variable symbol))
    ⊎ (((symbol : ℕ) × (input : ℕ) × (kind ≡ Lookup1 symbol input))
    ⊎ (((symbol : ℕ) × (first : ℕ) × (second : ℕ) × (kind ≡ Lookup2 symbol first second))
    ⊎ ((symbol : ℕ) × (first : ℕ) × (second : ℕ) × (third : ℕ) × (kind ≡ Lookup3 symbol first second third))))

-- The row of the kind that the match found is made within the set.
module _ {kind : Kind} {factor : Fraction} {t columns : ℕ} {l : Lists} (asked : Makeable kind factor t columns l) where
  -- an unknown's: 01, The run: "Unknowns are variables and lookups."
  unknown_column : Unknown kind → (c : ℕ) → column_built kind t l c ≡ made (alone t one_ℚ c)
  unfolding built_column
  unknown_column (inl (_, is)) c = ap (λ k. column_built k t l c) is
  unknown_column (inr (inl (_, _, is))) c = ap (λ k. column_built k t l c) is
  unknown_column (inr (inr (inl (_, _, _, is)))) c = ap (λ k. column_built k t l c) is
  unknown_column (inr (inr (inr (_, _, _, _, is)))) c = ap (λ k. column_built k t l c) is

  pub unknown_makes : {step : Step} {new : Lists} → Unknown kind → StandsAlone t t one_ℚ step l new → Makes kind t columns step l new
  unfolding alone
  unknown_makes {step} {new} found stands =
      let is = unknown_column found in
      record {
        built = row_made_built (subst (λ g. RowMade g (COLUMNS * t) (COLUMNS * (t + 1)) step l.nums l.dens new.nums new.dens) (sym (fun_ext is)) stands.row_made);
        within = stands.within columns (λ below. covered_one asked.covered t below (is t ∙ ap (λ b. made (cond b one_ℚ zero_ℚ)) (eq-eqb t t refl)));
      }

  -- a constant's
  pub constant_makes : {s : Scaled} {step : Step} {new : Lists} → kind ≡ Constant s → StandsAlone t constant (value factor) step l new → Makes kind t columns step l new
  unfolding built_column
  constant_makes {s} {step} {new} is stands =
      let worth-placed = subst (λ q. RowMade (λ c. made (alone constant q c)) (COLUMNS * t) (COLUMNS * (t + 1)) step l.nums l.dens new.nums new.dens) (constant_holds (λ s. value factor ≡ worth s) asked.fraction.same is) stands.row_made in
      record {
        built = row_made_built (subst (λ k. RowMade (column_built k t l) (COLUMNS * t) (COLUMNS * (t + 1)) step l.nums l.dens new.nums new.dens) (sym is) worth-placed);
        within = stands.within columns (λ below. absurd (omega arith));
      }
