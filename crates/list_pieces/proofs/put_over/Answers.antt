-- `list_pieces::put_over` meets its contract. Assumes nothing.
use Rattle.list_pieces.proofs.Written.{wrote_over}
use Rattle.list_pieces.proofs.put_over.Goals as goal

pub returns : goal.returns
returns c = search wrote_over
