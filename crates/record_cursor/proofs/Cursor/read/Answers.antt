-- `record_cursor::Cursor::read` meets its contract: where the bits are there, they are taken.
-- Assumes nothing.
use Rattle.record_cursor.proofs.There.{piece_there}
use Rattle.record_cursor.proofs.Cursor.read.Goals as goal

pub returns : goal.returns
returns c = search piece_there
