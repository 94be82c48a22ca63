-- `run_build_row::build_term` meets its contract. Assumes nothing.
use Rattle.run_build_row.proofs.Term.{term_makeable, term_built}
use Rattle.run_build_row.proofs.build_term.Goals as goal

pub term_row-step-requires : goal.term_row-step-requires
term_row-step-requires c = search term_makeable

pub returns : goal.returns
returns c = search term_built
