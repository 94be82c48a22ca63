-- Each contract leaves one answer and one writer: one place reached, and one content of its buffer.
-- Main results: a law NAME_unique for each public function NAME. Assume nothing.
use mathlib.Core.Path.{◌≡◌, sym, ap₂, ◌∙◌}
use Rattle.std.specs.Prelude.{Result, ℕ}
use Rattle.unique.specs.Twice.{Twice}
use Rattle.answer.specs.declared.Refusal.{Refusal}
use Rattle.list_lines.proofs.Unique.{listed_unique}
use Rattle.list_writer.specs.declared.Writer.{Writer}
use Rattle.list_writer.specs.Contract.{moved_on}
use Rattle.list_writer.proofs.list_row.Kinds as row-kinds
use Rattle.list_writer.proofs.list_row.Reads as row-reads
use Rattle.list_writer.proofs.first_line.Kinds as line-kinds
use Rattle.list_writer.proofs.first_line.Reads as line-reads

-- The same answer and the same content make the same writer.
same_writer : (w : Writer) {w' w'' : Writer} {r s : Result ℕ Refusal} → w' ≡ moved_on w r w'.buf.now → w'' ≡ moved_on w s w''.buf.now → (r ≡ s) × (w'.buf.now ≡ w''.buf.now) → (r ≡ s) × (w' ≡ w'')
same_writer w first second (answers, buffers) = (answers, first ∙ ap₂ (moved_on w) answers buffers ∙ sym second)

pub list_row_unique : Twice row-kinds.ps row-kinds.r row-reads.Post λ κs a x y end end'. (x ≡ y) × (end.0.now ≡ end'.0.now)
list_row_unique κs a x y end end' first second =
    same_writer a.0.now first.moves second.moves (listed_unique x y _ _ (first.lists.answers ∙ sym second.lists.answers))

pub first_line_unique : Twice line-kinds.ps line-kinds.r line-reads.Post λ κs a x y end end'. (x ≡ y) × (end.0.now ≡ end'.0.now)
first_line_unique κs a x y end end' first second =
    same_writer a.0.now first.moves second.moves (listed_unique x y _ _ (first.lists.answers ∙ sym second.lists.answers))
