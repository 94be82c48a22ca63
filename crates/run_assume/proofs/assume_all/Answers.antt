-- `run_assume::assume_all` meets its contract. Assumes nothing.
use Rattle.std.proofs.Common.{rules, arith}
use Rattle.std.proofs.lemmas.Result.{err_from_is_err_and}
use Rattle.rules_problem.proofs.Holding.{holding}
use Rattle.run_assume.proofs.All.{assuming_starts, sides_below_lem, assuming_ends, assuming_turned}
use Rattle.run_assume.proofs.assume_all.Goals as goal

pub loop-k-init : goal.loop-k-init
loop-k-init c = assuming_starts c.requires

pub pair_at-pair-requires : goal.pair_at-pair-requires
pair_at-pair-requires c = let prepared = c.requires.prepared in
    record { held = prepared.held; terms = prepared.terms; least = c.loop-k.invariant.least; most = search rules }

pub assume_one-requires : goal.assume_one-requires
assume_one-requires c = let held = c.requires.prepared.held in
    let parts = holding _ held.problem held.same in
    let below = sides_below_lem _ _ _ _ c.pair_at-pair.ensures in
    record { resting = c.loop-k.invariant.resting; left_below = below.0; right_below = below.1; few_solved = omega (arith, c.loop-k.invariant, c.requires.pairs, parts.few_pairs) }

pub loop-k-preserved : goal.loop-k-preserved
loop-k-preserved c = (assuming_turned c.requires c.loop-k.invariant (omega arith) c.pair_at-pair.result c.pair_at-pair.ensures c.assume_one.ensures).on _ c.in_ok-count.was

pub returns-in_err-count : goal.returns-in_err-count
returns-in_err-count c =
    let p = err_from_is_err_and c.from_residual.result c.from_residual.ensures.1 in
    rw (p.1, p.2) ((assuming_turned c.requires c.loop-k.invariant (omega arith) c.pair_at-pair.result c.pair_at-pair.ensures c.assume_one.ensures).stops _ c.in_err-count.was)

pub returns-in_ok-count : goal.returns-in_ok-count
returns-in_ok-count c =
    let turned = assuming_turned c.requires c.loop-k.invariant (omega arith) c.pair_at-pair.result c.pair_at-pair.ensures c.assume_one.ensures in
    assuming_ends c.requires (turned.on _ c.in_ok-count.was) (omega arith)

pub returns : goal.returns
returns c = assuming_ends c.requires c.loop-k.invariant (search rules)
