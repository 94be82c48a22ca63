-- `list_pieces::put_pieces` meets its contract. The loop's invariant: the pieces of the columns below c are written. Assumes nothing.
use mir.Syntax.{w32}
use Rattle.whole.proofs.Words.{kept}
use Rattle.rules_listing.specs.Line.{pieces}
use Rattle.list_text.proofs.Placing.{wrote_nothing}
use Rattle.list_pieces.proofs.Written.{piece_ready, pieces_more}
use Rattle.list_pieces.proofs.put_pieces.Goals as goal

pub loop-c-init : goal.loop-c-init
unfolding pieces
loop-c-init c = wrote_nothing _ _

pub loop-c-preserved : goal.loop-c-preserved
loop-c-preserved c = search (pieces_more, kept w32)

pub put_piece-next-requires : goal.put_piece-next-requires
put_piece-next-requires c = search (piece_ready, kept w32)
