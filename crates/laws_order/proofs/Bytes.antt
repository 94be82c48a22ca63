-- Byte strings that are the same up to the order of their pairs hold problems that are the same up to order.
-- Main result: `same_bytes_same`. Assumes nothing.
use mathlib.Core.Path.{◌≡◌, refl, sym, ap, ap₂, ◌∙◌, subst}
use mathlib.Core.Logic.{◌⊎◌, inl, inr}
use mathlib.Core.List.Memᴰ
use mathlib.Core.List.{List, [], ◌∷◌, Memᴰ}
use Prim.Native.Nat.{ℕ, zero, suc, ◌+◌, ◌-◌, ◌*◌, ◌/◌, ◌%◌, ◌^◌, ◌≤◌, ◌<◌}
use native.Mathlib.Nat.{add-zero}
use native.Mathlib.Omega.{arith}
use lib.ListN.{length, get_or}
use lib.Seq.{ext_get_or}
use Rattle.fraction.specs.Made.{made}
use Rattle.rules_problem.specs.declared.Kind.TheVariants.{Variable}
use Rattle.rules_problem.specs.declared.Term.{Term}
use Rattle.rules_problem.specs.Bits.{bit_at, field}
use Rattle.rules_problem.specs.Problem.{Pair, Problem, term_at, decoded}
use Rattle.rules_problem.specs.Pairs.{pair_there}
use Rattle.rules_problem.specs.Record.{fields_at}
use Rattle.rules_problem.proofs.Holding.{SidesOf, sides_made, terms_count, term_there, pairs_count, pair_there_lem, goal_there}
use Rattle.laws_valuation.proofs.Decoded.{place_of}
use Rattle.rules_demands.specs.Order.{swapped, Covers, SameUpToOrder}
use Rattle.laws_order.specs.SameBytes.{byte_at, term_count, pair_count, left_byte, right_byte, SamePair, PairsIn, SameBytes}

-- A field is made of its bits,
field_equal : (bytes bytes' : List ℕ) (width p p' : ℕ) → ((j : ℕ) → j < width → bit_at bytes (p + j) ≡ bit_at bytes' (p' + j)) → field bytes p width ≡ field bytes' p' width
unfolding field
field_equal bytes bytes' zero p p' same = refl
field_equal bytes bytes' (suc width) p p' same =
    ap₂ (λ b rest. b * 2 ^ width + rest) (simp add-zero at (same 0 (omega arith)))
    (field_equal bytes bytes' width (p + 1) (p' + 1) (λ j below.
    let next : p + 1 + j ≡ p + suc j = omega arith in
    let next' : p' + 1 + j ≡ p' + suc j = omega arith in
    rw (next, next') (same (suc j) (omega arith))))

-- and a bit is in one byte.
bit_equal : (bytes bytes' : List ℕ) (p p' : ℕ) → byte_at bytes (p / 8) ≡ byte_at bytes' (p' / 8) → p % 8 ≡ p' % 8 → bit_at bytes p ≡ bit_at bytes' p'
unfolding bit_at byte_at
bit_equal bytes bytes' p p' byte place = ap₂ (λ b k. b / 2 ^ (7 - k) % 2) byte place

-- A field that is a byte depends on that byte only.
byte_equal : (bytes bytes' : List ℕ) (i i' : ℕ) → byte_at bytes i ≡ byte_at bytes' i' → field bytes (8 * i) 8 ≡ field bytes' (8 * i') 8
byte_equal bytes bytes' i i' same = field_equal bytes bytes' 8 (8 * i) (8 * i') (λ j below.
    let here : (8 * i + j) / 8 ≡ i = omega arith in
    let here' : (8 * i' + j) / 8 ≡ i' = omega arith in
    bit_equal bytes bytes' (8 * i + j) (8 * i' + j) (rw (here, here') same) (omega arith))

pair_path : {a b : Pair} → a.left ≡ b.left → a.right ≡ b.right → a ≡ b
pair_path left right i = record { left = left i; right = right i }

-- What stands at a place of a list is a member.
member_at : {A : Type 0} (d : A) (list : List A) (i : ℕ) → i < length list → Memᴰ (get_or list i d) list
member_at d [] i below = absurd (omega arith)
member_at d (x ∷ list) zero below = Memᴰ.head refl
member_at d (x ∷ list) (suc i) below = Memᴰ.tail (member_at d list i (omega arith))

-- The sides of a pair are those of pair k in the string.
record Sides (bytes : List ℕ) (k : ℕ) (pair : Pair) : Type 0 where
  left : pair.left ≡ field bytes (8 * (4 + 8 * term_count bytes + 2 * k)) 8
  right : pair.right ≡ field bytes (8 * (4 + 8 * term_count bytes + 2 * k + 1)) 8

pair_sides : (bytes : List ℕ) (problem : Problem) → decoded bytes ≡ made problem → (k : ℕ) → k < pair_count bytes → Sides bytes k (get_or problem.pairs k problem.goal)
unfolding pair_there pair_count term_count
pair_sides bytes problem read k below =
    let sides = sides_made bytes (field bytes 0 8) (1 + k) _ _ (pair_there_lem bytes problem read k below problem.goal) in
    let left : 32 + 64 * field bytes 0 8 + 16 * (1 + k - 1) ≡ 8 * (4 + 8 * field bytes 0 8 + 2 * k) = omega arith in
    let right : 32 + 64 * field bytes 0 8 + 16 * (1 + k - 1) + 8 ≡ 8 * (4 + 8 * field bytes 0 8 + 2 * k + 1) = omega arith in
    record { left = sides.left ∙ ap (λ x. field bytes x 8) left; right = sides.right ∙ ap (λ x. field bytes x 8) right }

-- Pairs that stand in another string are pairs of its problem.
pairs_covered : (bytes bytes' : List ℕ) (p q : Problem) → decoded bytes ≡ made p → decoded bytes' ≡ made q → PairsIn bytes bytes' → Covers p.pairs q.pairs
unfolding PairsIn SamePair left_byte right_byte pair_count Covers swapped
pairs_covered bytes bytes' p q read read' inside pair member =
    let (k, below, same) = place_of p.goal member in
    let counted = pairs_count bytes p read in
    let counted' = pairs_count bytes' q read' in
    let (l, below', equal) = inside k (omega arith) in
    by k l (subst (Sides bytes k) same (pair_sides bytes p read k (omega arith))) (pair_sides bytes' q read' l below') (member_at q.goal q.pairs l (omega arith)) equal
  where
    by : (k l : ℕ) {other : Pair} → Sides bytes k pair → Sides bytes' l other → Memᴰ other q.pairs → SamePair bytes bytes' k l → Memᴰ pair q.pairs ⊎ Memᴰ (swapped pair) q.pairs
    by k l sides sides' stands (inl (left, right)) =
        inl (Memᴰ.cast (pair_path (sides.left ∙ byte_equal bytes bytes' _ _ left ∙ sym sides'.left) (sides.right ∙ byte_equal bytes bytes' _ _ right ∙ sym sides'.right)) stands)
    by k l sides sides' stands (inr (left, right)) =
        inr (Memᴰ.cast (pair_path (sides.right ∙ byte_equal bytes bytes' _ _ right ∙ sym sides'.left) (sides.left ∙ byte_equal bytes bytes' _ _ left ∙ sym sides'.right)) stands)

module _ (bytes bytes' : List ℕ) (same : SameBytes bytes bytes') where
  -- A field behind the counts and before the pairs is the same in both.
  before_equal : (p width : ℕ) → 16 ≤ p → p + width ≤ 32 + 64 * term_count bytes → field bytes p width ≡ field bytes' p width
  before_equal p width from upto = field_equal bytes bytes' width p p (λ j below. bit_equal bytes bytes' (p + j) (p + j) (same.before ((p + j) / 8) (omega arith) (omega arith)) refl)

  counts_equal : term_count bytes ≡ term_count bytes'
  unfolding term_count
  counts_equal = byte_equal bytes bytes' 0 0 (same.before 0 (omega arith) (omega arith))

  fields_equal : (p : ℕ) → 16 ≤ p → p + 64 ≤ 32 + 64 * term_count bytes → fields_at bytes p ≡ fields_at bytes' p
  unfolding fields_at
  fields_equal p from upto i = record {
    kind = before_equal p 4 from (omega arith) i;
    symbol = before_equal (p + 4) 8 (omega arith) (omega arith) i;
    input1 = before_equal (p + 12) 8 (omega arith) (omega arith) i;
    input2 = before_equal (p + 20) 8 (omega arith) (omega arith) i;
    input3 = before_equal (p + 28) 8 (omega arith) (omega arith) i;
    mantissa = before_equal (p + 36) 16 (omega arith) (omega arith) i;
    shift = before_equal (p + 52) 4 (omega arith) (omega arith) i;
    padding = before_equal (p + 56) 8 (omega arith) (omega arith) i;
  }

  term_equal : (t : ℕ) → t < term_count bytes → term_at bytes t ≡ term_at bytes' t
  unfolding term_at
  term_equal t below = rw (fields_equal (32 + 64 * t) (omega arith) (omega arith), term_at)

  -- Such strings hold the same problem up to order.
  pub same_bytes_same : (p q : Problem) → decoded bytes ≡ made p → decoded bytes' ≡ made q → SameUpToOrder p q
  unfolding term_count
  same_bytes_same p q read read' = record {
    terms = ext_get_or absent p.terms q.terms (sized ∙ counts_equal ∙ sym sized') (λ t below. member t (omega (arith, sized)));
    goal = pair_path (goal.left ∙ before_equal 16 8 (omega arith) (omega arith) ∙ sym goal'.left) (goal.right ∙ before_equal 24 8 (omega arith) (omega arith) ∙ sym goal'.right);
    there = pairs_covered bytes bytes' p q read read' same.there;
    back = pairs_covered bytes' bytes q p read' read same.back;
  }
    where
      absent : Term
      absent = record { kind = Variable 0 }

      sized : length p.terms ≡ term_count bytes
      sized = terms_count bytes p read

      sized' : length q.terms ≡ term_count bytes'
      sized' = terms_count bytes' q read'

      goal : SidesOf bytes (field bytes 0 8) 16 p.goal
      goal = goal_there bytes p read

      goal' : SidesOf bytes' (field bytes' 0 8) 16 q.goal
      goal' = goal_there bytes' q read'

      member : (t : ℕ) → t < term_count bytes → get_or p.terms t absent ≡ get_or q.terms t absent
      member t below =
          let first = term_there bytes p read t below absent in
          let second = term_there bytes' q read' t (omega (arith, counts_equal)) absent in
          cc (term_equal t below)
