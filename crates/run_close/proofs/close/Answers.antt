-- `run_close::close` meets its contract. Assumes nothing.
use Rattle.std.proofs.Common.{arith, rules, ◌≤◌}
use Rattle.std.proofs.lemmas.Result.{IfOk-at_ok, err_from_is_err_and}
use Rattle.run_table.specs.Sets.{pending_of, open_of}
use Rattle.run_close.proofs.Turns.{closing_idle, closing_starts, closing_ends, closing_searches, closing_over, pair_below, closing_merges, closing_stops, closing_goes_on}
use Rattle.run_close.proofs.close.Goals as goal

pub returns-then-sets-eq0 : goal.returns-then-sets-eq0
unfolding pending_of
returns-then-sets-eq0 c = search closing_idle

pub loop-init : goal.loop-init
loop-init c = search closing_starts

pub find_due-requires : goal.find_due-requires
find_due-requires c = closing_searches c.loop.invariant c.wake.ensures

pub returns-in_default : goal.returns-in_default
returns-in_default c = closing_over c.loop.invariant c.wake.ensures c.find_due.ensures c.loop-test.true c.in_default.not-Some

pub without-requires : goal.without-requires
without-requires c = let order = pair_below c.loop.invariant c.wake.ensures c.find_due.ensures c.loop-test.true c.in-Some.is 0 in
    omega (arith, c.loop.invariant.serving.rows.few)

pub merge-requires : goal.merge-requires
merge-requires c = closing_merges c.loop.invariant c.wake.ensures c.find_due.ensures c.loop-test.true c.in-Some.is c.without.result

pub returns-in_err-count : goal.returns-in_err-count
unfolding open_of
returns-in_err-count c =
    let p = err_from_is_err_and c.from_residual.result c.from_residual.ensures.1 in
    rw (p.1, p.2) (closing_stops c.loop.invariant c.wake.ensures c.find_due.ensures c.loop-test.true c.in-Some.is c.without.result c.without.ensures (search rules) c.find_due.auto.waiting c.in_err-count.was)

pub overflow_add-count : goal.overflow_add-count
overflow_add-count c =
    let few = IfOk-at_ok (λ more. more ≤ 1) c.in_ok-count.was (search rules) in
    record { fits = omega (arith, few, c.loop.invariant.counted, c.loop.invariant.serving.rows.few, c.loop-test.true, c.requires.few_solved) }

pub loop-preserved : goal.loop-preserved
unfolding open_of
loop-preserved c = closing_goes_on c.loop.invariant c.wake.ensures c.find_due.ensures c.loop-test.true c.in-Some.is c.without.result c.without.ensures (search rules) c.find_due.auto.waiting c.in_ok-count.was

pub returns : goal.returns
returns c = closing_ends c.loop.invariant (omega arith)
