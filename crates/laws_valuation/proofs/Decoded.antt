-- A problem that is decoded is sound: the tests 3 to 6 of the table have passed.
-- Main results: `place_of`, `decoded_sound`. Assume nothing.
use mathlib.Core.Path.{◌≡◌, sym, ap, ◌∙◌, subst}
use mathlib.Core.List.Memᴰ
use mathlib.Core.List.{List, [], ◌∷◌, Memᴰ}
use Prim.Native.Nat.{ℕ, suc, ◌+◌, ◌<◌}
use native.Mathlib.Omega.{arith}
use lib.ListN.{length, get_or}
use Rattle.fraction.specs.Made.{made}
use Rattle.rules_problem.specs.declared.Kind.{Kind}
use Rattle.rules_problem.specs.declared.Kind.TheVariants.{Variable}
use Rattle.rules_problem.specs.declared.Term.{Term}
use Rattle.rules_problem.specs.Bits.{field}
use Rattle.rules_problem.specs.Lookup.{kind_at}
use Rattle.rules_problem.specs.Problem.{Pair, Problem, decoded}
use Rattle.rules_problem.specs.Record.{Fields}
use Rattle.rules_problem.specs.Pairs.{pair_there}
use Rattle.rules_problem.proofs.Holding.{Holding, SidesOf, holding, sides_made, terms_count, term_there, pairs_count, pair_there_lem, goal_there}
use Rattle.rules_problem.proofs.Recorded.{EachBelow, Recorded, variable, constant, gain, sum, difference, lookup1, lookup2, lookup3, term_recorded}
use Rattle.laws_valuation.specs.Sound.{Sound}
use Rattle.laws_valuation.specs.Written.{all_inputs}

each_member : (own : ℕ) (list : List ℕ) → EachBelow own list → (i : ℕ) → Memᴰ i list → i < own
unfolding EachBelow
each_member own [] below i m = absurd (Memᴰ.not-nil m)
each_member own (x ∷ list) below i (Memᴰ.head same) = subst (λ y. y < own) (sym same) below.0
each_member own (x ∷ list) below i (Memᴰ.tail later) = each_member own list below.1 i later

-- What the test of a record grants the kind that it finds.
abbrev Granted : (own : ℕ) → Kind → Type 0
Granted own kind = (i : ℕ) → Memᴰ i (all_inputs kind) → i < own

granted_kind : {own : ℕ} {f : Fields} {kind : Kind} → Recorded own f kind → Granted own kind
unfolding EachBelow all_inputs
granted_kind {own} variable = each_member own _ tt
granted_kind {own} constant = each_member own _ tt
granted_kind {own} (gain below) = each_member own _ below
granted_kind {own} (sum below) = each_member own _ below
granted_kind {own} (difference below) = each_member own _ below
granted_kind {own} (lookup1 below) = each_member own _ below
granted_kind {own} (lookup2 below) = each_member own _ below
granted_kind {own} (lookup3 below) = each_member own _ below

-- a member of a list stands at some place in it
pub place_of : {A : Type 0} (d : A) {a : A} {list : List A} → Memᴰ a list → (i : ℕ) × (i < length list) × (get_or list i d ≡ a)
place_of d (Memᴰ.head same) = (0, omega arith, sym same)
place_of d (Memᴰ.tail later) = let found = place_of d later in (suc found.0, omega (arith, found.1), found.2)

-- A problem that is decoded is sound.
pub decoded_sound : (bytes : List ℕ) (problem : Problem) → decoded bytes ≡ made problem → Sound problem
unfolding kind_at pair_there
decoded_sound bytes problem h = record {
  least = omega (arith, sized, parts.some_term);
  most = omega (arith, sized, parts.few_terms);
  written = record { earlier = granted };
  goal = omega (arith, sized, (goal_there bytes problem h).left_below, (goal_there bytes problem h).right_below);
  pairs = λ pair m. omega (arith, sized, (inside pair m).1.left_below, (inside pair m).1.right_below);
}
  where
    parts : Holding bytes problem
    parts = holding bytes problem h

    sized : length problem.terms ≡ field bytes 0 8
    sized = terms_count bytes problem h

    granted : (t : ℕ) → t < length problem.terms → Granted t (kind_at problem.terms t)
    granted t below =
        let absent : Term = record { kind = Variable 0 } in
        granted_kind (term_recorded bytes t (get_or problem.terms t absent) (term_there bytes problem h t (omega (arith, sized)) absent))

    inside : (pair : Pair) → Memᴰ pair problem.pairs → (p : ℕ) × SidesOf bytes (field bytes 0 8) p pair
    inside pair m =
        let (i, below, same) = place_of problem.goal m in
        (_, sides_made bytes (field bytes 0 8) (1 + i) _ pair (pair_there_lem bytes problem h i (omega (arith, pairs_count bytes problem h, below)) problem.goal ∙ ap made same))
