-- Each contract leaves one answer: one content of the buffer, and one next place.
-- Main results: `wrote_unique`, and a law NAME_unique for each public function NAME. Assume nothing.
use mathlib.Core.Path.{◌≡◌, sym, ◌∙◌}
use mathlib.Core.List.{List}
use Prim.Native.Nat.{ℕ}
use Rattle.unique.specs.Twice.{Twice}
use Rattle.list_text.specs.Wrote.{Wrote}
use Rattle.list_text.proofs.put_byte.Kinds as byte-kinds
use Rattle.list_text.proofs.put_byte.Reads as byte-Reads
use Rattle.list_text.proofs.put_text.Kinds as text-kinds
use Rattle.list_text.proofs.put_text.Reads as text-reads

-- A text written at a place leaves one buffer and one next place.
pub wrote_unique : (text : List ℕ) (place : ℕ) (before after after' : List ℕ) (next next' : ℕ) → Wrote text place before after next → Wrote text place before after' next' → (after ≡ after') × (next ≡ next')
wrote_unique text place before after after' next next' p q = (p.placed ∙ sym q.placed, p.reached ∙ sym q.reached)

pub put_byte_unique : Twice byte-kinds.ps byte-kinds.r byte-Reads.Post λ κs a x y end end'. (end.0.now ≡ end'.0.now) × (x ≡ y)
put_byte_unique κs a x y end end' = wrote_unique _ _ _ _ _ _ _

pub put_text_unique : Twice text-kinds.ps text-kinds.r text-reads.Post λ κs a x y end end'. (end.0.now ≡ end'.0.now) × (x ≡ y)
put_text_unique κs a x y end end' = wrote_unique _ _ _ _ _ _ _
