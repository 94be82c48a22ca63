-- `run_due_pair::is_due` meets its contract. Assumes nothing.
use mathlib.Core.Path.{sym, ◌∙◌}
use mathlib.Core.Bool.{false≢true}
use Rattle.run_due_pair.proofs.Steps.{unlike_pair, inputs_differ, rows_decide}
use Rattle.run_due_pair.proofs.is_due.Goals as goal
use Rattle.run_due_pair.proofs.is_due.Goals.{then-same_function, else-same_function}

pub returns-then-same_inputs : goal.returns-then-same_inputs
returns-then-same_inputs c = let both = c.if-same_inputs.true in
    elim c.if-same_function.branch [
      | then-same_function w ↦ rows_decide c.requires _ c.same_function.ensures w.if-same_function.true _ w.same_inputs.ensures (sym w.value-is ∙ both) c.same_row.ensures
      | else-same_function w ↦ absurd (false≢true (sym w.if-same_function.false ∙ sym w.value-is ∙ both))
    ]

pub returns-else-same_inputs : goal.returns-else-same_inputs
returns-else-same_inputs c = let one = c.if-same_inputs.false in
    rw one
    (elim c.if-same_function.branch [
      | then-same_function w ↦ inputs_differ c.requires _ c.same_function.ensures w.if-same_function.true _ w.same_inputs.ensures (sym w.value-is ∙ one)
      | else-same_function w ↦ unlike_pair c.requires _ c.same_function.ensures w.if-same_function.false
    ])
