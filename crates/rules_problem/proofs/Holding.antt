-- What a byte string that holds a problem holds.
-- Main definitions: `Holding`, `SidesOf`. Main results: `holding`, `sides_made`, `terms_count`, `term_there`, `pairs_count`, `pair_there_lem`, `goal_there`.
-- Assume nothing.
use mathlib.Core.Path.{◌≡◌, refl, sym, ap, ◌∙◌}
use mathlib.Core.Bool.{Bool, true, false, ◌&&◌, cond}
use mathlib.Core.List.{List}
use Prim.Native.Nat.{ℕ, ◌+◌, ◌*◌, ◌≤◌, ◌<◌}
use native.Mathlib.Omega.{arith}
use native.Mathlib.Nat.{zero-add}
use borrow.Author.Tests.{ltb-true, leb-true, eqb-true}
use lib.Dec.{ltb}
use lib.ListN.{length, get_or}
use Rattle.answer.specs.declared.Refusal.{Refusal}
use Rattle.answer.specs.declared.Reason.{Reason}
use Rattle.answer.specs.declared.Reason.TheVariants as reason
use Rattle.fraction.specs.Made.{Made, made, stopped, ◌>>=◌, tab}
use Rattle.fraction.proofs.Making.{stopped_not_made, tab_length, tab_member}
use Rattle.rules_problem.specs.declared.Term.{Term}
use Rattle.rules_problem.specs.Bits.{field}
use Rattle.rules_problem.specs.Pairs.{pair_there}
use Rattle.rules_problem.specs.Problem.{Pair, Problem, refuse, term_at, pair_at, need, decoded}

-- what tests 2 to 6 leave of a byte string that passes them
pub record Holding (bytes : List ℕ) (p : Problem) : Type 0 where
  pub some_term : 1 ≤ field bytes 0 8
  pub few_terms : field bytes 0 8 ≤ 64
  pub few_pairs : field bytes 8 8 ≤ 64
  pub whole : length bytes ≡ 4 + 8 * field bytes 0 8 + 2 * field bytes 8 8
  pub terms : tab (field bytes 0 8) 0 (term_at bytes) ≡ made p.terms
  pub goal : pair_at bytes (field bytes 0 8) 0 16 ≡ made p.goal
  pub pairs : tab (field bytes 8 8) 1 (pair_there bytes (field bytes 0 8)) ≡ made p.pairs

never : {A : Type 0} → false ≡ true → A
never e = let z : ◌≡◌ {A = ℕ} 0 1 = cc in absurd (omega arith)

-- three tests that were passed
passed : {A : Type 0} (a b c : Bool) (x y z : Reason) (next : Made Refusal A) (p : A) → need a x (need b y (need c z next)) ≡ made p → (b ≡ true) × (c ≡ true) × (next ≡ made p)
unfolding need refuse
passed true true true x y z next p e = (refl, refl, e)
passed true true false x y z next p e = absurd (stopped_not_made e)
passed true false c x y z next p e = absurd (stopped_not_made e)
passed false b c x y z next p e = absurd (stopped_not_made e)

-- three steps that were made
parts : (terms : Made Refusal (List Term)) (goal : Made Refusal Pair) (pairs : Made Refusal (List Pair)) (p : Problem) → (terms >>= λ a. goal >>= λ b. pairs >>= λ c. made (record { terms = a; goal = b; pairs = c })) ≡ made p → (terms ≡ made p.terms) × (goal ≡ made p.goal) × (pairs ≡ made p.pairs)
unfolding ◌>>=◌
parts (made a) (made b) (made c) p e =
    let same : record { terms = a; goal = b; pairs = c } ≡ p = cc in
    (ap (λ q. made q.terms) same, ap (λ q. made q.goal) same, ap (λ q. made q.pairs) same)
parts (made a) (made b) (stopped why) p e = absurd (stopped_not_made e)
parts (made a) (stopped why) pairs p e = absurd (stopped_not_made e)
parts (stopped why) goal pairs p e = absurd (stopped_not_made e)

each : (a b c : Bool) → (a && b && c) ≡ true → (a ≡ true) × (b ≡ true) × (c ≡ true)
each true true true e = (refl, refl, refl)
each true true false e = never e
each true false c e = never e
each false b c e = never e

-- A byte string that holds a problem has passed every test.
pub holding : (bytes : List ℕ) (p : Problem) → decoded bytes ≡ made p → Holding bytes p
unfolding decoded pair_there
holding bytes p e =
    let (counts, len, rest) = passed _ _ _ reason.Short reason.Count reason.Length _ p e in
    let (some_term, few_terms, few_pairs) = each _ _ _ counts in
    let (terms, goal, pairs) = parts _ _ _ p rest in
    record {
      some_term = leb-true _ _ some_term;
      few_terms = leb-true _ _ few_terms;
      few_pairs = leb-true _ _ few_pairs;
      whole = eqb-true _ _ len;
      terms = terms;
      goal = goal;
      pairs = pairs;
    }

-- A pair that is made has its sides from the bytes, both below n.
pub record SidesOf (bytes : List ℕ) (n at : ℕ) (pair : Pair) : Type 0 where
  pub left : pair.left ≡ field bytes at 8
  pub right : pair.right ≡ field bytes (at + 8) 8
  pub left_below : pair.left < n
  pub right_below : pair.right < n

pub sides_made : (bytes : List ℕ) (n place at : ℕ) (pair : Pair) → pair_at bytes n place at ≡ made pair → SidesOf bytes n at pair
unfolding pair_at refuse
sides_made bytes n place at pair = go (ltb (field bytes at 8) n) (ltb (field bytes (at + 8) 8) n) refl refl
  where
    go : (a b : Bool) → ltb (field bytes at 8) n ≡ a → ltb (field bytes (at + 8) 8) n ≡ b → cond (a && b) (made (record { left = field bytes at 8; right = field bytes (at + 8) 8 })) (refuse reason.Pair place) ≡ made pair → SidesOf bytes n at pair
    go true true l r e =
        let same : pair ≡ record { left = field bytes at 8; right = field bytes (at + 8) 8 } = cc in
        rw same (record { left = refl; right = refl; left_below = ltb-true _ _ l; right_below = ltb-true _ _ r })
    go true false l r e = absurd (stopped_not_made e)
    go false b l r e = absurd (stopped_not_made e)

module _ (bytes : List ℕ) (p : Problem) (held : decoded bytes ≡ made p) where
  parts_held : Holding bytes p
  parts_held = holding bytes p held

  -- The problem has as many terms as the header says, each as the rule makes it of its record.
  pub terms_count : length p.terms ≡ field bytes 0 8
  terms_count = tab_length (term_at bytes) _ 0 _ parts_held.terms

  pub term_there : (t : ℕ) → t < field bytes 0 8 → (d : Term) → term_at bytes t ≡ made (get_or p.terms t d)
  term_there t h d = ap (term_at bytes) (sym (zero-add t)) ∙ tab_member (term_at bytes) _ 0 _ parts_held.terms d t h

  -- The problem has as many pairs as the header says, each as the rule makes it of its sides; the pair at index k is pair k + 1.
  pub pairs_count : length p.pairs ≡ field bytes 8 8
  pairs_count = tab_length (pair_there bytes (field bytes 0 8)) _ 1 _ parts_held.pairs

  pub pair_there_lem : (k : ℕ) → k < field bytes 8 8 → (d : Pair) → pair_there bytes (field bytes 0 8) (1 + k) ≡ made (get_or p.pairs k d)
  pair_there_lem k h d = tab_member (pair_there bytes (field bytes 0 8)) _ 1 _ parts_held.pairs d k h

  -- The goal's sides are the header's.
  pub goal_there : SidesOf bytes (field bytes 0 8) 16 p.goal
  goal_there = sides_made bytes _ 0 16 _ parts_held.goal
