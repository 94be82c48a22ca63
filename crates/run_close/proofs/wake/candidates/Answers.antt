-- `run_close::wake::candidates` meets its contract. Assumes nothing.
use mathlib.Core.Path.{sym, ap, ◌∙◌}
use mathlib.Core.Bool.{◌&&◌, or-true, or-false, and-true}
use lib.ListN.{get_or}
use Rattle.set_members.specs.Sets.{holds}
use Rattle.run_table.specs.Sets.{earlier_of, pending_of, open_of}
use Rattle.run_close.proofs.wake.candidates.Goals as goal

pub returns-then-has : goal.returns-then-has
unfolding earlier_of pending_of open_of
returns-then-has c i = let pending = sym c.has.ensures ∙ c.if-has.true in
    rw (pending, or-true, and-true) (c.common-earlier.ensures i)

pub returns-else-has : goal.returns-else-has
unfolding earlier_of pending_of open_of
returns-else-has c i = let asleep = sym c.has.ensures ∙ c.if-has.false in
    rw (asleep, or-false) (c.common.ensures i ∙ ap (λ b. b && holds (get_or c.args.sets.now 192 0) i) (c.common-earlier.ensures i))
