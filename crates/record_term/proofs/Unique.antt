-- The contracts of the term reader leave one answer.
-- Main results: `read_term_unique`, `held_term_unique`. Assume nothing.
use Rattle.std.specs.Prelude.{Some}
use mathlib.Core.Path.{◌≡◌, sym, ◌∙◌}
use Rattle.unique.specs.Twice.{Twice}
use Rattle.record_term.proofs.held_term.Kinds as held-term-kinds
use Rattle.record_term.proofs.held_term.Reads as held-term
use Rattle.record_term.proofs.read_term.Kinds as read-term-kinds
use Rattle.record_term.proofs.read_term.Reads as read-term

pub read_term_unique : Twice read-term-kinds.ps read-term-kinds.r read-term.Post λ κs a x y end end'. x ≡ y
read_term_unique κs a x y end end' first second = first ∙ sym second

pub held_term_unique : Twice held-term-kinds.ps held-term-kinds.r held-term.Post λ κs a x y end end'. x ≡ y
held_term_unique κs a x y end end' first second = let same : Some x ≡ Some y = sym first ∙ second in cc
