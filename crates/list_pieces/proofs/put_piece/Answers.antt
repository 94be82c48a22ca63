-- `list_pieces::put_piece` meets its contract. Assumes nothing.
use Rattle.std.proofs.Common.{rules}
use Rattle.list_pieces.proofs.Written.{wrote_none, piece_room, over_room, wrote_piece}
use Rattle.list_pieces.proofs.put_piece.Goals as goal

pub returns-then-top-eq0 : goal.returns-then-top-eq0
returns-then-top-eq0 c = search wrote_none

pub put_byte-blank-requires : goal.put_byte-blank-requires
put_byte-blank-requires c = let room = piece_room c.requires c.ranges.num c.size-top.ensures c.if-top-eq0.false in search rules

pub put_byte-signed-requires : goal.put_byte-signed-requires
put_byte-signed-requires c = let room = piece_room c.requires c.ranges.num c.size-top.ensures c.if-top-eq0.false in search rules

pub put_over-over-requires : goal.put_over-over-requires
put_over-over-requires c = let room = over_room c.requires c.ranges.num c.size-top.ensures c.if-top-eq0.false c.ranges.den c.size.ensures in search rules

pub put_term-requires : goal.put_term-requires
put_term-requires c = let room = over_room c.requires c.ranges.num c.size-top.ensures c.if-top-eq0.false c.ranges.den c.size.ensures in search rules

pub returns : goal.returns
returns c = search wrote_piece
