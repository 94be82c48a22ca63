-- `run_build::build` meets its contract. Assumes nothing.
use Rattle.std.proofs.lemmas.Result.{err_from_is_err_and}
use Rattle.run_build.proofs.Rows.{rising_starts, rising_notes, rising_links, rising_rows, rising_goes_on, rising_stops, rising_ends}
use Rattle.run_build.proofs.build.Goals as goal

pub loop-t-init : goal.loop-t-init
loop-t-init c = search rising_starts

pub loop-t-preserved : goal.loop-t-preserved
loop-t-preserved c = rising_goes_on c.requires c.loop-t.invariant c.loop-t-test.true c.term_at-term.ensures c.note_call.ensures c.note_links.ensures c.build_term.ensures c.in_ok-build_term.was

pub returns-in_err-build_term : goal.returns-in_err-build_term
returns-in_err-build_term c =
    let same = err_from_is_err_and c.from_residual.result c.from_residual.ensures.1 in
    rw (same.1, same.2) (rising_stops c.requires c.loop-t.invariant c.loop-t-test.true c.term_at-term.ensures c.note_call.ensures c.note_links.ensures c.build_term.ensures c.in_err-build_term.was)

pub returns : goal.returns
returns c = search rising_ends

pub note_call-requires : goal.note_call-requires
note_call-requires c = search rising_notes

pub note_links-requires : goal.note_links-requires
note_links-requires c = search rising_links

pub build_term-requires : goal.build_term-requires
build_term-requires c = rising_rows c.requires c.loop-t.invariant c.loop-t-test.true c.term_at-term.ensures c.note_call.ensures c.note_links.ensures
