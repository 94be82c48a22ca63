-- Two answers to one call of a function, as the laws of uniqueness speak of them.
-- Main definitions: `Twice`, `TwiceAsked`. Assume nothing.
use Rattle.std.specs.Prelude.{List, ℕ}
use borrow.Fn.Kinds.{ParamKind, ResultKind, Dens, In, Out, ended_of, res_t}
use contract.Lifetimes.{Lfts}
use denote.Triple.Clauses.{AtExit}

-- What a law of uniqueness concludes of a call: of its arguments, of two results, and of what the lent lists hold after each.
abbrev pub Same : {m : ℕ} → List (ParamKind m) → ResultKind m → Type 1
Same {m} ps r = (κs : Lfts m) → Dens κs ps → (x y : (res_t r κs).Denot) → (end end' : AtExit (ended_of m ps r) κs) → Type 0

-- Whatever the arguments of a call are: two results that satisfy its `ensures`, each with what the lent lists hold then, are the same.
-- `ps` and `r` are the kinds of the function's parameters and of its result, `Post` is its `ensures` as the toolchain reads it.
abbrev pub Twice : {m : ℕ} (ps : List (ParamKind m)) (r : ResultKind m) → Out m ps r → Same ps r → Type 0
Twice {m} ps r Post same = (κs : Lfts m) (a : Dens κs ps) (x y : (res_t r κs).Denot) (end end' : AtExit (ended_of m ps r) κs) → Post κs a x end → Post κs a y end' → same κs a x y end end'

-- The same of arguments that satisfy its `requires`, `Pre` as the toolchain reads it.
abbrev pub TwiceAsked : {m : ℕ} (ps : List (ParamKind m)) (r : ResultKind m) → In m ps → Out m ps r → Same ps r → Type 0
TwiceAsked {m} ps r Pre Post same = (κs : Lfts m) (a : Dens κs ps) (x y : (res_t r κs).Denot) (end end' : AtExit (ended_of m ps r) κs) → Pre κs a → Post κs a x end → Post κs a y end' → same κs a x y end end'
