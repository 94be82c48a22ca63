-- `record_cursor::Cursor::take` meets its contract: a field lies in three bytes, and is what a shift and a remainder leave of their number.
-- Assumes nothing.
use Rattle.std.proofs.Common.{arith}
use borrow.Author.Tests.{le-leb}
use mathlib.Core.Path.{◌≡◌}
use Prim.Native.Nat.{◌+◌, ◌-◌, ◌*◌, ◌/◌, ◌%◌, ◌^◌, ◌≤◌}
use lib.ListN.{length}
use Rattle.rules_problem.specs.Bits.{field}
use Rattle.record_cursor.proofs.Bits.{field_window, power_made}
use Rattle.record_cursor.specs.Taken.{number_at, taken_at}
use Rattle.record_cursor.proofs.Cursor.take.Goals as goal

pub returns : goal.returns
unfolding taken_at
returns c = let a = c.args in
    let bytes = a.bytes.now in
    let width = a.width in
    let within : a.self.at + width ≤ 8 * length bytes = omega arith in
    let three : field bytes a.self.at width ≡ number_at bytes (a.self.at / 8) 3 / 2 ^ (24 - (a.self.at % 8 + width)) % 2 ^ width =
    field_window bytes (λ i. (c.type_inv.bytes i).fits) a.self.at width _ (omega arith) in
    rw (le-leb _ _ within, c.window.ensures, power_made 32 width (omega arith), three)
