-- Which lists a run leaves: the rows and 0/1 behind them, or zeros.
-- Main results: `finishes_entailed`, `finishes_not_entailed`, `clears`. Assume nothing.
use mathlib.Core.Path.{◌≡◌, sym, ap, ◌∙◌, subst}
use mathlib.Core.Logic.{inl, inr}
use mathlib.Core.Bool.{Bool, true, false}
use mathlib.Core.List.{List}
use Prim.Native.Nat.{ℕ, ◌+◌, ◌*◌, ◌/◌, ◌%◌, ◌≤◌, ◌<◌}
use native.Mathlib.Nat.{div-add-mod, mod-lt}
use native.Mathlib.Decide.{dec_lt}
use native.Mathlib.Omega.{arith}
use lib.ListN.{get_or, get_or-eq_default}
use lib.IntN.{ℤ, pos}
use Rattle.answer.specs.declared.Answer.{Answer}
use Rattle.answer.specs.declared.Answer.TheVariants.{Entailed, NotEntailed}
use Rattle.fraction.specs.Exact.{whole, zero_ℚ}
use Rattle.fraction_reduce.specs.Values.{value}
use Rattle.fraction_reduce.proofs.Lowest.{value_num, value_den}
use Rattle.rules_run.specs.Row.{COLUMNS, PLACES, column, row_of, cell, same_row}
use Rattle.rules_run.specs.Run.{judged}
use Rattle.run_table.specs.Held.{held_at}
use Rattle.run_table.specs.Work.{Work, table_of, Rows}
use Rattle.run_table.proofs.Columns.{column_held, row_held_lem, table_length}
use Rattle.run_fill.specs.Contract.{Filled}
use Rattle.rules_outcome.specs.Outcome.{rows, zeros, after, laid_out}
use Rattle.rules_outcome.proofs.Laid.{laid_out_is}
use Rattle.run_finish.specs.Lent.{lent_of}
use Rattle.run_finish.specs.Contract.{Finishable, Finishes, Clears}

module _ {n : ℕ} {w : Work} (ready : Rows n w) where
  -- a cell of the table is the fraction at its place; past the last row it is 0
  cell_held : (t c : ℕ) → t < n → c < COLUMNS → cell (table_of n w) t c ≡ value (held_at w.nums w.dens (COLUMNS * t + c))
  unfolding cell
  cell_held t c t-below c-below =
      ap (λ r. column r c) (row_held_lem n w.nums w.dens t t-below) ∙ column_held w.nums w.dens (COLUMNS * t) c c-below

  cell_beyond : (t c : ℕ) → n ≤ t → cell (table_of n w) t c ≡ zero_ℚ
  unfolding cell row_of column
  cell_beyond t c beyond =
      ap (λ r. column r c) (get_or-eq_default (table_of n w) _ (subst (λ l. l ≤ t) (sym (table_length n w.nums w.dens)) beyond))

  module _ {nums' dens' : List ℤ} (nums-filled : Filled (COLUMNS * n) PLACES (pos 0) w.nums nums') (dens-filled : Filled (COLUMNS * n) PLACES (pos 1) w.dens dens') where
    num_at : (p : ℕ) → Dec (p < COLUMNS * n) → p < PLACES → get_or nums' p (pos 0) ≡ (cell (table_of n w) (p / COLUMNS) (p % COLUMNS)).num
    unfolding zero_ℚ whole
    num_at p (yes low) below =
        let t-below : p / COLUMNS < n = omega arith in
        let c-below : p % COLUMNS < COLUMNS = mod-lt p (omega arith) in
        nums-filled.outside p (inl low)
        ∙ sym
        (ap (λ q. q.num) (cell_held (p / COLUMNS) (p % COLUMNS) t-below c-below)
        ∙ ap (λ k. (value (held_at w.nums w.dens k)).num) (div-add-mod p COLUMNS)
        ∙ value_num (ready.sound.good p low))
    num_at p (no high) below =
        let far : COLUMNS * n ≤ p = omega arith in
        let beyond : n ≤ p / COLUMNS = omega arith in
        nums-filled.inside p far below ∙ sym (ap (λ q. q.num) (cell_beyond (p / COLUMNS) (p % COLUMNS) beyond))

    den_at : (p : ℕ) → Dec (p < COLUMNS * n) → p < PLACES → get_or dens' p (pos 0) ≡ pos (cell (table_of n w) (p / COLUMNS) (p % COLUMNS)).den
    unfolding zero_ℚ whole
    den_at p (yes low) below =
        let t-below : p / COLUMNS < n = omega arith in
        let c-below : p % COLUMNS < COLUMNS = mod-lt p (omega arith) in
        dens-filled.outside p (inl low)
        ∙ (ready.sound.good p low).upward
        ∙ sym
        (ap (λ q. pos q.den) (cell_held (p / COLUMNS) (p % COLUMNS) t-below c-below)
        ∙ ap (λ k. pos (value (held_at w.nums w.dens k)).den) (div-add-mod p COLUMNS)
        ∙ ap pos (value_den (ready.sound.good p low)))
    den_at p (no high) below =
        let far : COLUMNS * n ≤ p = omega arith in
        let beyond : n ≤ p / COLUMNS = omega arith in
        dens-filled.inside p far below ∙ sym (ap (λ q. pos q.den) (cell_beyond (p / COLUMNS) (p % COLUMNS) beyond))

    -- The lists after the rows: what stood in them below 65n, and 0/1 from there to the last place.
    rows_left : rows (table_of n w) (lent_of w.nums w.dens) ≡ lent_of nums' dens'
    unfolding rows
    rows_left i = record {
      numerators = laid_out_is (λ t c. (cell (table_of n w) t c).num) w.nums nums' nums-filled.same_length (λ p low long. num_at p (dec_lt p (COLUMNS * n)) low) (λ p far. nums-filled.outside p (inr far)) i;
      denominators = laid_out_is (λ t c. pos (cell (table_of n w) t c).den) w.dens dens' dens-filled.same_length (λ p low long. den_at p (dec_lt p (COLUMNS * n)) low) (λ p far. dens-filled.outside p (inr far)) i;
    }

module _ {n left right solved : ℕ} {w : Work} {nums' dens' : List ℤ} {same : Bool} (ready : Finishable n left right w) (tested : same ≡ same_row (table_of n w) left right) (nums-filled : Filled (COLUMNS * n) PLACES (pos 0) w.nums nums') (dens-filled : Filled (COLUMNS * n) PLACES (pos 1) w.dens dens') where
  -- Where the goal's rows are equal, and where they are not.
  pub finishes_entailed : same ≡ true → Finishes n left right solved (Entailed solved) w (lent_of nums' dens')
  unfolding after judged
  finishes_entailed equal = record { outcome = rw (← tested, equal, rows_left ready.rows nums-filled dens-filled) }

  pub finishes_not_entailed : same ≡ false → Finishes n left right solved (NotEntailed solved) w (lent_of nums' dens')
  unfolding after judged
  finishes_not_entailed unequal = record { outcome = rw (← tested, unequal, rows_left ready.rows nums-filled dens-filled) }

-- The lists after a stop: 0 in every place.
pub clears : {answer : Answer} {nums dens nums' dens' : List ℤ} → Filled 0 PLACES (pos 0) nums nums' → Filled 0 PLACES (pos 0) dens dens' → Clears answer answer (lent_of nums dens) (lent_of nums' dens')
unfolding after zeros
clears {answer} {nums} {dens} {nums'} {dens'} nums-filled dens-filled =
    record { outcome = λ i. record { answer = answer; left = record { numerators = all nums nums' nums-filled i; denominators = all dens dens' dens-filled i } } }
  where
    all : (list list' : List ℤ) → Filled 0 PLACES (pos 0) list list' → laid_out (λ t c. pos 0) list ≡ list'
    all list list' filled =
        laid_out_is _ list list' filled.same_length (λ p low long. filled.inside p (omega arith) low) (λ p far. filled.outside p (inr far))
