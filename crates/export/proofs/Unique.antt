-- Each contract leaves one answer, and one content of all that is lent.
-- Main results: `hamzulaph_decide_unique`, `hamzulaph_list_row_unique`. Assume nothing.
use mathlib.Core.Path.{◌≡◌, sym, ap, ◌∙◌}
use mathlib.Core.List.{List}
use Prim.Native.Nat.{ℕ}
use lib.IntN.{ℤ}
use Rattle.unique.specs.Twice.{Twice}
use Rattle.decide.proofs.Unique.{decided_one}
use Rattle.list_lines.specs.Contract.{place_of, number_of}
use Rattle.list_lines.proofs.Unique.{listed_unique}
use Rattle.answer_numbers.specs.declared.Numbers.{Numbers}
use Rattle.answer_numbers.specs.Numbers.{numbers_of}
use Rattle.export.specs.Contract.{Handed}
use Rattle.export.proofs.hamzulaph_decide.Kinds as decide-kinds
use Rattle.export.proofs.hamzulaph_decide.Reads as decide-reads
use Rattle.export.proofs.hamzulaph_list_row.Kinds as row-kinds
use Rattle.export.proofs.hamzulaph_list_row.Reads as row_reads

-- Two answers in numbers, with the lists that they leave, for one byte string and the same lent lists.
handed_unique : {bytes : List ℕ} {nums dens nums' dens' nums'' dens'' : List ℤ} {r s : Numbers} → Handed bytes nums dens nums' dens' r → Handed bytes nums dens nums'' dens'' s → (r ≡ s) × (nums' ≡ nums'') × (dens' ≡ dens'')
handed_unique p q =
    let one = decided_one p.decided q.decided in
    (sym p.tells ∙ ap numbers_of one.0 ∙ q.tells, one.1, one.2)

pub hamzulaph_decide_unique : Twice decide-kinds.ps decide-kinds.r decide-reads.Post λ κs a x y end end'.
    let (bytes, (nums, (dens, (number, (figure, rest))))) = end in
    let (bytes', (nums', (dens', (number', (figure', rest'))))) = end' in
    (x ≡ y) × (nums.now ≡ nums'.now) × (dens.now ≡ dens'.now) × (number.now ≡ number'.now) × (figure.now ≡ figure'.now)
hamzulaph_decide_unique κs a x y end end' first second =
    let (numbers, nums, dens) = handed_unique first second in
    (ap (λ n. n.word) numbers, nums, dens, ap (λ n. n.number) numbers, ap (λ n. n.figure) numbers)

-- Two places with their numbers, and the buffers that they leave, for one row of the same lists and one buffer.
pub hamzulaph_list_row_unique : Twice row-kinds.ps row-kinds.r row_reads.Post λ κs a x y end end'.
    let (buf, (at, (nums, (dens, (t, (number, rest)))))) = end in
    let (buf', (at', (nums', (dens', (t', (number', rest')))))) = end' in
    (x ≡ y) × (buf.now ≡ buf'.now) × (number.now ≡ number'.now)
hamzulaph_list_row_unique κs a x y end end' p q =
    let (reached, buf) = listed_unique p.reached q.reached _ _ (p.lists.answers ∙ sym q.lists.answers) in
    (sym p.tells_place ∙ ap place_of reached ∙ q.tells_place, buf, sym p.tells_number ∙ ap number_of reached ∙ q.tells_number)
