-- The contract leaves one answer: the terms whose lookups are noted fix it.
-- Main result: `find_due_unique`. Assumes nothing.
use mathlib.Core.Path.{◌≡◌, refl, sym, ap, ◌∙◌}
use mathlib.Core.Option.{Option, some, none}
use Rattle.unique.specs.Twice.{TwiceAsked}
use Rattle.rules_problem.specs.Problem.{Pair}
use Rattle.std.specs.Prelude.{Some, None}
use Rattle.run_due_pair.specs.Found.{Due, pair_of}
use Rattle.run_due_pair.proofs.find_due.Kinds.{ps, r}
use Rattle.run_due_pair.proofs.find_due.Reads.{Pre, Post}

due_of : Option Pair → Due
due_of none = None
due_of (some pair) = Some (record { left = pair.left; right = pair.right })

due_back : (r : Due) → due_of (pair_of r) ≡ r
unfolding pair_of due_of
due_back (Some pair) = refl
due_back None = refl

-- Said of the contract itself, as the toolchain reads it. The pairs that wait afterwards are hints, of which more would do.
pub find_due_unique : TwiceAsked ps r Pre Post λ κs a x y end end'. x ≡ y
find_due_unique κs a x y end end' asked first second =
    let notes = asked.serving.notes in
    sym (due_back x) ∙ ap due_of (sym (first.pair notes.terms notes.lookups) ∙ second.pair notes.terms notes.lookups) ∙ due_back y
