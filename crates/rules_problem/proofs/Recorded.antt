-- What a term that is decoded is: a kind with the fields of its record, each input below the term's own number.
-- Main definitions: `EachBelow`, `Recorded`. Main result: `term_recorded`. Assume nothing.
use mathlib.Core.Path.{◌≡◌, refl, subst}
use mathlib.Core.Bool.{Bool, true, false, ◌&&◌, cond, and-eq-true_iff}
use mathlib.Core.List.{List, [], ◌∷◌}
use mathlib.Core.Option.{Option, some, none}
use Prim.Native.Nat.{ℕ, zero, suc, ◌+◌, ◌*◌, ◌<◌}
use native.Mathlib.Omega.{arith}
use borrow.Author.Tests.{ltb-true}
use lib.Dec.{ltb, eqb}
use lib.ListN.{get_or}
use Rattle.answer.specs.declared.Refusal.{Refusal}
use Rattle.answer.specs.declared.Reason.TheVariants as reason
use Rattle.fraction.specs.Made.{Made, made}
use Rattle.fraction.proofs.Making.{stopped_not_made}
use Rattle.rules_problem.specs.declared.Kind.{Kind}
use Rattle.rules_problem.specs.declared.Kind.TheVariants.{Variable, Constant, Gain, Sum, Difference, Lookup1, Lookup2, Lookup3}
use Rattle.rules_problem.specs.declared.Term.{Term}
use Rattle.rules_problem.specs.Problem.{refuse, term_at}
use Rattle.rules_problem.specs.Record.{Fields, fields_at, scaled, every, unless_faulty, kind_of}

-- each number of a list is below `own`
unfoldable pub EachBelow : (own : ℕ) → List ℕ → Type 0
EachBelow own [] = Unit {0}
EachBelow own (x ∷ rest) = (x < own) × EachBelow own rest

each_below : (own : ℕ) (list : List ℕ) → every (λ i. ltb i own) list ≡ true → EachBelow own list
unfolding every EachBelow
each_below own [] h = tt
each_below own (x ∷ rest) h =
    let (first, others) = (and-eq-true_iff (ltb x own) (every (λ i. ltb i own) rest)).0 h in
    (ltb-true x own first, each_below own rest others)

-- The kinds that the fields f of the record of term `own` can be.
pub data Recorded (own : ℕ) (f : Fields) : Kind → Type 0 where
  variable : Recorded own f (Variable f.symbol)
  constant : Recorded own f (Constant (scaled f))
  gain : EachBelow own (f.input1 ∷ []) → Recorded own f (Gain (scaled f) f.input1)
  sum : EachBelow own (f.input1 ∷ f.input2 ∷ []) → Recorded own f (Sum f.input1 f.input2)
  difference : EachBelow own (f.input1 ∷ f.input2 ∷ []) → Recorded own f (Difference f.input1 f.input2)
  lookup1 : EachBelow own (f.input1 ∷ []) → Recorded own f (Lookup1 f.symbol f.input1)
  lookup2 : EachBelow own (f.input1 ∷ f.input2 ∷ []) → Recorded own f (Lookup2 f.symbol f.input1 f.input2)
  lookup3 : EachBelow own (f.input1 ∷ f.input2 ∷ f.input3 ∷ []) → Recorded own f (Lookup3 f.symbol f.input1 f.input2 f.input3)

module _ (own : ℕ) (f : Fields) where
  -- a row of the table of kinds holds such a kind, if any
  abbrev Row : Option Kind → Type 0
  Row found = (kind : Kind) → found ≡ some kind → Recorded own f kind

  nothing : Row none
  nothing kind same = let no_way : ◌≡◌ {A = ℕ} 0 1 = cc in absurd (omega arith)

  unless : (unused inputs : List ℕ) {kind : Kind} → (EachBelow own inputs → Recorded own f kind) → Row (unless_faulty own unused inputs kind)
  unfolding unless_faulty
  unless unused inputs {kind} is = by (every (λ x. eqb x 0) unused) (every (λ i. ltb i own) inputs) refl
    where
      by : (free below : Bool) → every (λ i. ltb i own) inputs ≡ below → Row (cond (free && below) (some kind) none)
      by true true all = λ other same. let this : kind ≡ other = cc in subst (Recorded own f) this (is (each_below own inputs all))
      by true false all = nothing
      by false below all = nothing

  data Rows : List (Option Kind) → Type 0 where
    end : Rows []
    also : {found : Option Kind} {rest : List (Option Kind)} → Row found → Rows rest → Rows (found ∷ rest)

  at_row : {rows : List (Option Kind)} → Rows rows → (k : ℕ) → Row (get_or rows k none)
  at_row end k = nothing
  at_row (also first rest) zero = first
  at_row (also first rest) (suc k) = at_row rest k

  kind_recorded : Row (kind_of own f)
  unfolding kind_of
  kind_recorded =
      at_row
      (also nothing
      (also (unless _ _ (λ below. variable))
      (also (unless _ _ (λ below. constant))
      (also (unless _ _ gain)
      (also (unless _ _ sum)
      (also (unless _ _ difference)
      (also (unless _ _ lookup1)
      (also (unless _ _ lookup2)
      (also (unless _ _ lookup3)
      end))))))))) f.kind

-- A term that is decoded has one of these kinds, with the fields of its record.
pub term_recorded : (bytes : List ℕ) (t : ℕ) (term : Term) → term_at bytes t ≡ made term → Recorded t (fields_at bytes (32 + 64 * t)) term.kind
unfolding term_at refuse
term_recorded bytes t term = by (kind_of t (fields_at bytes (32 + 64 * t))) (kind_recorded t (fields_at bytes (32 + 64 * t)))
  where
    by : (found : Option Kind) → ((kind : Kind) → found ≡ some kind → Recorded t (fields_at bytes (32 + 64 * t)) kind) → ◌≡◌ {A = Made Refusal Term} (elim found [ none ↦ refuse reason.Term t | some kind ↦ made (record { kind = kind }) ]) (made term) → Recorded t (fields_at bytes (32 + 64 * t)) term.kind
    by none is h = absurd (stopped_not_made h)
    by (some kind) is h = is term.kind (cc)
