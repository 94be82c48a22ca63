-- `export::hamzulaph_list_row` meets its contract. Assumes nothing.
use mathlib.Core.Path.{sym, ap, ◌∙◌}
use Rattle.list_lines.specs.Contract.{place_of, number_of}
use Rattle.export.proofs.hamzulaph_list_row.Goals as goal

pub returns-in-Ok : goal.returns-in-Ok
unfolding place_of number_of
returns-in-Ok c = let same = c.in-Ok.is in
    record { reached = _; tells_place = ap place_of same; tells_number = ap number_of same; lists = c.list_row_at.ensures }

pub returns-in-Err : goal.returns-in-Err
unfolding place_of number_of
returns-in-Err c = let same = c.in-Err.is in
    record { reached = _; tells_place = ap place_of same; tells_number = ap number_of same ∙ sym c.number.ensures; lists = c.list_row_at.ensures }
