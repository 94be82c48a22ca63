-- What comes back of small problems, computed on the rules: refusal 7 at place 0 and at an assumption with zeros in both lists, and
-- behind the rows of a finished table 0/1.
-- Main results: `too_fine_at_start`, `too_fine_at_assumption`, `behind_the_rows`. Assume nothing.
use mathlib.Core.Path.{◌≡◌, refl, ap, ◌∙◌}
use mathlib.Core.List.{List, [], ◌∷◌, ◌++◌}
use Prim.Native.Nat.{ℕ, ◌+◌, ◌*◌, ◌/◌, ◌%◌, ◌≤◌, ◌<◌}
use native.Mathlib.Omega.{arith}
use lib.ListN.{length, get_or, get_or-eq_default}
use lib.IntN.{ℤ, pos}
use Rattle.answer.specs.declared.Answer.TheVariants.{Entailed, Refused}
use Rattle.fraction.specs.Exact.{whole, zero_ℚ}
use Rattle.rules_run.specs.Row.{Table, TERMS, COLUMNS, PLACES, cell, row_of, column}
use Rattle.rules_run.specs.Run.{highest_number}
use Rattle.rules_outcome.specs.Computed.{computed_answer}
use Rattle.rules_outcome.specs.Outcome.{Decision, unread, cut_short, finished, decision, Lent, Long, Outcome, laid_out, zeros, rows, after, outcome}
use Rattle.rules_outcome.proofs.Cells.{laid_out_at}
use Rattle.rules_outcome.proofs.Decided.{outcome_long_enough}
use Rattle.rules_outcome.proofs.Laid.{overwritten_below, overwritten_beyond}

-- the records of a variable, and of a gain mantissa / 2^shift of an input, each number below 16
variable : List ℕ
variable = 16 ∷ 0 ∷ 0 ∷ 0 ∷ 0 ∷ 0 ∷ 0 ∷ 0 ∷ []

gain : (input mantissa shift : ℕ) → List ℕ
gain input mantissa shift = 48 ∷ 0 ∷ (16 * input) ∷ 0 ∷ 0 ∷ 0 ∷ (16 * mantissa + shift) ∷ 0 ∷ []

-- 01, case N: "gain 1 shift 15 twice is accepted; gain 1 shift 1 of that is refusal 7"
once_too_fine : List ℕ
once_too_fine = 4 ∷ 0 ∷ 0 ∷ 0 ∷ variable ++ gain 0 1 15 ++ gain 1 1 15 ++ gain 2 1 1

-- x/2^30 and twice y are assumed equal: y would be x/2^31
later_too_fine : List ℕ
later_too_fine = 5 ∷ 1 ∷ 0 ∷ 0 ∷ variable ++ gain 0 1 15 ++ gain 1 1 15 ++ variable ++ gain 3 2 0 ++ 4 ∷ 2 ∷ []

-- two variables, assumed equal, goal between them
two_variables : List ℕ
two_variables = 2 ∷ 1 ∷ 0 ∷ 1 ∷ variable ++ variable ++ 0 ∷ 1 ∷ []

-- Refused with 7 at a place: both lists hold 0 at all 4,160 places, and behind those what was there.
record RefusedWithZeros (place : ℕ) (lent : Lent) (o : Outcome) : Type 0 where
  answer : o.answer ≡ Refused 7 place
  numerators : (p : ℕ) → p < PLACES → get_or o.left.numerators p (pos 0) ≡ pos 0
  denominators : (p : ℕ) → p < PLACES → get_or o.left.denominators p (pos 0) ≡ pos 0
  numerators_beyond : (p : ℕ) → PLACES ≤ p → get_or o.left.numerators p (pos 0) ≡ get_or lent.numerators p (pos 0)
  denominators_beyond : (p : ℕ) → PLACES ≤ p → get_or o.left.denominators p (pos 0) ≡ get_or lent.denominators p (pos 0)

zeroed : (list : List ℤ) → PLACES ≤ length list → (p : ℕ) → p < PLACES → get_or (laid_out (λ t c. pos 0) list) p (pos 0) ≡ pos 0
unfolding laid_out
zeroed list long p below = overwritten_below PLACES (λ p. pos 0) list p below (omega arith)

beyond : (g : (t c : ℕ) → ℤ) (list : List ℤ) (p : ℕ) → PLACES ≤ p → get_or (laid_out g list) p (pos 0) ≡ get_or list p (pos 0)
unfolding laid_out
beyond g list p far = overwritten_beyond PLACES (λ p. g (p / COLUMNS) (p % COLUMNS)) list p far

refused_with_zeros : (place : ℕ) (lent : Lent) → Long lent → RefusedWithZeros place lent (after (cut_short (Refused 7 place)) lent)
unfolding after zeros
refused_with_zeros place lent long = record {
  answer = refl;
  numerators = zeroed lent.numerators long.numerators;
  denominators = zeroed lent.denominators long.denominators;
  numerators_beyond = beyond (λ t c. pos 0) lent.numerators;
  denominators_beyond = beyond (λ t c. pos 0) lent.denominators;
}

once_stops : decision highest_number once_too_fine ≡ cut_short (Refused 7 0)
unfolding computed_answer variable gain once_too_fine
once_stops = refl

later_stops : decision highest_number later_too_fine ≡ cut_short (Refused 7 1)
unfolding computed_answer variable gain later_too_fine
later_stops = refl

-- Step 1 makes a number too large: refusal 7 at place 0, and zeros.
too_fine_at_start : (lent : Lent) → Long lent → RefusedWithZeros 0 lent (outcome highest_number once_too_fine lent)
too_fine_at_start lent long = rw (outcome_long_enough highest_number once_too_fine lent long, once_stops) (refused_with_zeros 0 lent long)

-- The first assumption's merge does: refusal 7 at place 1, and zeros.
too_fine_at_assumption : (lent : Lent) → Long lent → RefusedWithZeros 1 lent (outcome highest_number later_too_fine lent)
too_fine_at_assumption lent long = rw (outcome_long_enough highest_number later_too_fine lent long, later_stops) (refused_with_zeros 1 lent long)

-- the table of a decision that finishes
table_in : Decision → Table
table_in (unread refusal) = []
table_in (cut_short answer) = []
table_in (finished answer table) = table

joined : Table
joined = table_in (decision highest_number two_variables)

joined_finished : decision highest_number two_variables ≡ finished (Entailed 1) joined
unfolding computed_answer variable two_variables table_in joined
joined_finished = refl

joined_rows : length joined ≡ 2
unfolding computed_answer variable two_variables table_in joined
joined_rows = refl

nothing_behind : (t c : ℕ) → 2 ≤ t → cell joined t c ≡ zero_ℚ
unfolding cell row_of column
nothing_behind t c behind = ap (λ r. column r c) (get_or-eq_default joined [] (omega (arith, joined_rows)))

-- "rows n to 63 all 0/1": of a finished problem of two terms the rows 2 to 63.
behind_the_rows : (lent : Lent) → Long lent → (t c : ℕ) → 2 ≤ t → t < TERMS → c < COLUMNS → (get_or (outcome highest_number two_variables lent).left.numerators (COLUMNS * t + c) (pos 0) ≡ pos 0) × (get_or (outcome highest_number two_variables lent).left.denominators (COLUMNS * t + c) (pos 0) ≡ pos 1)
unfolding after rows zero_ℚ whole
behind_the_rows lent long t c behind row column =
    let ends = outcome_long_enough highest_number two_variables lent long ∙ ap (λ d. after d lent) joined_finished in (
      ap (λ o. get_or o.left.numerators (COLUMNS * t + c) (pos 0)) ends
          ∙ laid_out_at (λ t c. (cell joined t c).num) lent.numerators t c long.numerators row column
          ∙ ap (λ q. q.num) (nothing_behind t c behind),
      ap (λ o. get_or o.left.denominators (COLUMNS * t + c) (pos 0)) ends
          ∙ laid_out_at (λ t c. pos (cell joined t c).den) lent.denominators t c long.denominators row column
          ∙ ap (λ q. pos q.den) (nothing_behind t c behind),
    )
