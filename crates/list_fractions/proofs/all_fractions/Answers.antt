-- `list_fractions::all_fractions` meets its contract. Assumes nothing.
use mathlib.Core.Path.{◌∙◌}
use Rattle.list_fractions.proofs.Places.{all_of_row}
use Rattle.list_fractions.proofs.all_fractions.Goals as goal

pub returns : goal.returns
returns c = c.all_pairs.ensures ∙ all_of_row _ _ _
