-- `list_pieces::put_term` meets its contract. Assumes nothing.
use Rattle.list_pieces.proofs.Written.{wrote_term}
use Rattle.list_pieces.proofs.put_term.Goals as goal

pub returns : goal.returns
returns c = search wrote_term
