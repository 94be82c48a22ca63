-- `list_pieces::put_pieces` meets its contract. The loop's invariant: the pieces of the columns below c are written. Assumes nothing.
use Rattle.rules_listing.specs.Line.{pieces}
use Rattle.list_text.specs.Wrote.{Wrote}
use Rattle.list_fractions.specs.Listable.{row_held}
use Rattle.list_pieces.proofs.put_pieces.Given as goal

abbrev pub invariant-loop-c : goal.invariant-loop-c
invariant-loop-c l = Wrote (pieces l.c (row_held l.t l.nums l.dens)) l.at l.initial.buf l.buf l.next
