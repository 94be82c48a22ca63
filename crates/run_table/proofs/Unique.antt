-- Each contract leaves one answer, and one content of both lists; and what is noted of the lookups is fixed.
-- Main results: `get_unique`, `put_unique`, `calls_determined`. Assume nothing.
use mathlib.Core.Path.{◌≡◌, sym, ◌∙◌}
use mathlib.Core.List.{List}
use Prim.Native.Nat.{ℕ, ◌+◌, ◌*◌, ◌/◌, ◌%◌, ◌≤◌, ◌<◌}
use native.Mathlib.Decide.{dec_lt}
use native.Mathlib.Omega.{arith}
use lib.ListN.{get_or}
use lib.Seq.{ext_get_or}
use Rattle.unique.specs.Twice.{Twice}
use Rattle.rules_problem.specs.declared.Term.{Term}
use Rattle.run_table.specs.Notes.{LookupsNoted, NotesKept}
use Rattle.run_table.proofs.get.Kinds as get-kinds
use Rattle.run_table.proofs.get.Reads as get-reads
use Rattle.run_table.proofs.put.Kinds as put-kinds
use Rattle.run_table.proofs.put.Reads as put_reads

-- Each law is said of the function's own contract, as the toolchain reads it.
pub get_unique : Twice get-kinds.ps get-kinds.r get-reads.Post λ κs a x y end end'. x ≡ y
get_unique κs a x y end end' first second = first ∙ sym second

pub put_unique : Twice put-kinds.ps put-kinds.r put_reads.Post λ κs a x y end end'. (end.0.now ≡ end'.0.now) × (end.1.0.now ≡ end'.1.0.now)
put_unique κs a x y end end' first second = (first.0 ∙ sym second.0, first.1 ∙ sym second.1)

-- Lists that differ from the same lists in the places of n terms alone, and hold the calls of the same terms there, are the same.
pub calls_determined : {terms : List Term} {n : ℕ} {heads₀ inputs₀ heads inputs heads' inputs' : List ℕ} → NotesKept n heads₀ inputs₀ heads inputs → NotesKept n heads₀ inputs₀ heads' inputs' → LookupsNoted terms n heads inputs → LookupsNoted terms n heads' inputs' → (heads ≡ heads') × (inputs ≡ inputs')
calls_determined {n = n} {heads = heads} {inputs} {heads'} {inputs'} kept kept' calls calls' = (
  ext_get_or 0 heads heads' (kept.heads_length ∙ sym kept'.heads_length) (λ k below. head k (dec_lt k n)),
  ext_get_or 0 inputs inputs' (kept.inputs_length ∙ sym kept'.inputs_length) (λ k below. input k (dec_lt k (3 * n))),
)
  where
    head : (k : ℕ) → Dec (k < n) → get_or heads k 0 ≡ get_or heads' k 0
    head k (yes below) = calls.head k below ∙ sym (calls'.head k below)
    head k (no beyond) = let far : n ≤ k = omega arith in kept.heads_beyond k far ∙ sym (kept'.heads_beyond k far)

    input : (k : ℕ) → Dec (k < 3 * n) → get_or inputs k 0 ≡ get_or inputs' k 0
    input k (yes below) =
        let inside : k / 3 < n = omega arith in
        let place : k ≡ 3 * (k / 3) + k % 3 = omega arith in
        rw place (calls.input (k / 3) (k % 3) inside (omega arith) ∙ sym (calls'.input (k / 3) (k % 3) inside (omega arith)))
    input k (no beyond) = let far : 3 * n ≤ k = omega arith in kept.inputs_beyond k far ∙ sym (kept'.inputs_beyond k far)
