-- The run with every rule open, so that it computes on a problem.
-- Main definition: `computed_run`. Assumes nothing.
use Rattle.answer.specs.declared.Answer.{Answer}
use Rattle.rules_problem.specs.Problem.{Problem}
use Rattle.rules_run.specs.Run.{by_number, highest_number, ends, assume, begin, run, judged}
use Rattle.rules_run.specs.Close.{same_rows, is_due, first, due, close_for, close}
use Rattle.rules_run.specs.Merge.{State, difference, higher, pivot, solved_column, folded_column, folded, solve, settle, merge}
use Rattle.rules_run.specs.Build.{alone, built_column, built}
use Rattle.rules_run.specs.Row.{column, row_of, cell, row, same_to, same_row}
use Rattle.rules_problem.specs.Lookup.{call_of, inputs_of, same_function, alike, kind_at}
use Rattle.fraction.specs.Made.{Made, ◌>>=◌, tab, because}
use Rattle.fraction.specs.Limits.{limit, within, tested, plus, minus, times, over}
use Rattle.fraction.specs.Exact.{whole, zero_ℚ, one_ℚ, frac, worth, ◌+ℚ◌, neg_ℚ, ◌-ℚ◌, ◌*ℚ◌, inverse, ◌÷ℚ◌, eq_ℤ, eq_ℚ}
use Rattle.answer.specs.Refusals.{number_of}
use Rattle.whole.specs.Gcd.{gcd, euclid}
use Rattle.whole.specs.Signed.{signed}

unfoldable pub computed_run : Problem → Made Answer State
unfolding
    by_number
    highest_number
    ends
    assume
    begin
    run
    judged
    same_rows
    is_due
    first
    due
    close_for
    close
    difference
    higher
    pivot
    solved_column
    folded_column
    folded
    solve
    settle
    merge
    alone
    built_column
    built
    column
    row_of
    cell
    row
    same_to
    same_row
    call_of
    inputs_of
    same_function
    alike
    kind_at
    ◌>>=◌
    tab
    because
    limit
    within
    tested
    plus
    minus
    times
    over
    worth
    whole
    zero_ℚ
    one_ℚ
    frac
    ◌+ℚ◌
    neg_ℚ
    ◌-ℚ◌
    ◌*ℚ◌
    inverse
    ◌÷ℚ◌
    eq_ℤ
    eq_ℚ
    number_of
    gcd
    euclid
    signed
computed_run problem = run highest_number problem
