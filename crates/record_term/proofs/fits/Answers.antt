-- `record_term::fits` meets its contract: what is tested is what is not used. Assumes nothing.
use Rattle.std.proofs.Common.{rules}
use Rattle.record_fields.specs.Contract.{fields_of}
use Rattle.record_term.specs.Uses.{inputs_of}
use Rattle.record_term.proofs.Uses.{fits_tested, below_cut}
use Rattle.record_term.proofs.fits.Goals as goal

pub returns : goal.returns
unfolding fields_of inputs_of
returns c = let a = c.args in fits_tested a.own (fields_of a.f) a.symbol a.inputs a.scaled (search rules) (search (rules, below_cut))
