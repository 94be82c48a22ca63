-- `run_begin::begin` meets its contract. Assumes nothing.
use Rattle.std.proofs.Common.{rules}
use Rattle.std.proofs.lemmas.Result.{MatchResult-weaker, err_from_is_err_and}
use Rattle.run_begin.proofs.Stages.{build_done, build_refused, begins_refused, begin_closable, begin_counted, begins_closed}
use Rattle.run_begin.proofs.begin.Goals as goal

pub returns-in_err-map_err : goal.returns-in_err-map_err
returns-in_err-map_err c =
    let p = err_from_is_err_and c.from_residual.result c.from_residual.ensures.1 in
    let placed = MatchResult-weaker c.build-built.result c.map_err.ensures.cases (λ done is. is) (λ why told. search rules) in
    let (why, is, same) = build_refused c.build-built.result placed c.in_err-map_err.was in
    rw (p.1, p.2, same) (begins_refused c.requires c.build-built.ensures is)

pub returns : goal.returns
returns c = begins_closed c.requires c.build-built.ensures (build_done c.build-built.result c.map_err.ensures.variant c.in_ok-map_err.was) c.close-closed.ensures c.placed.ensures

pub close-closed-requires : goal.close-closed-requires
close-closed-requires c = begin_closable c.requires c.build-built.ensures (build_done c.build-built.result c.map_err.ensures.variant c.in_ok-map_err.was)

pub placed-requires : goal.placed-requires
placed-requires c = begin_counted c.requires c.build-built.ensures (build_done c.build-built.result c.map_err.ensures.variant c.in_ok-map_err.was) c.close-closed.ensures
