-- Sums of products of variables, in order, with cancellation: the normal form of the solver of ring identities.
-- Main definitions: `Terms`, `sum`, `scaled`, `product`. Main result: `order_same`. Assume nothing.
use mathlib.Core.Path.{◌≡◌, refl, ap₂}
use mathlib.Core.List.{List, [], ◌∷◌}
use mathlib.Core.Bool.{Bool, cond, beq}
use Prim.Native.Nat.{ℕ, Ordering, compare}
use lib.Dec.{T, compare_is_eq, leb, eqb→eq}

-- A product of variables, in order, each by its place in a list of values.
abbrev pub Factors : Type 0
Factors = List ℕ

-- A product with its sign: true is plus.
pub data Term : Type 0 where
  term : Bool → Factors → Term

-- A sum of terms, in order.
abbrev pub Terms : Type 0
Terms = List Term

-- the product with one more factor, and with several
abbrev pub with_factor : ℕ → Factors → Factors
with_factor i [] = i ∷ []
with_factor i (j ∷ m) = cond (leb i j) (i ∷ j ∷ m) (j ∷ with_factor i m)

abbrev pub with_factors : Factors → Factors → Factors
with_factors [] k = k
with_factors (i ∷ m) k = with_factor i (with_factors m k)

-- the order of products
abbrev pub then_by : Ordering → Ordering → Ordering
then_by Ordering.lt rest = Ordering.lt
then_by Ordering.eq rest = rest
then_by Ordering.gt rest = Ordering.gt

abbrev pub order : Factors → Factors → Ordering
order [] [] = Ordering.eq
order [] (j ∷ k) = Ordering.lt
order (i ∷ m) [] = Ordering.gt
order (i ∷ m) (j ∷ k) = then_by (compare i j) (order m k)

-- the sum with one more term, which cancels against its opposite
abbrev pub placed : Ordering → Bool → Factors → Bool → Factors → (rest inserted : Terms) → Terms
placed Ordering.lt s m t k rest inserted = term s m ∷ term t k ∷ rest
placed Ordering.eq s m t k rest inserted = cond (beq s t) (term s m ∷ term t k ∷ rest) rest
placed Ordering.gt s m t k rest inserted = term t k ∷ inserted

abbrev pub with_term : Bool → Factors → Terms → Terms
with_term s m [] = term s m ∷ []
with_term s m (term t k ∷ p) = placed (order m k) s m t k p (with_term s m p)

abbrev pub sum : Terms → Terms → Terms
sum [] q = q
sum (term s m ∷ p) q = with_term s m (sum p q)

-- one term times a sum, and a sum times a sum
abbrev pub scaled : Bool → Factors → Terms → Terms
scaled s m [] = []
scaled s m (term t k ∷ p) = with_term (beq s t) (with_factors m k) (scaled s m p)

abbrev pub product : Terms → Terms → Terms
product [] q = []
product (term s m ∷ p) q = sum (scaled s m q) (product p q)

-- products in the same place of the order are the same
then_eq : (o rest : Ordering) → T (compare_is_eq (then_by o rest)) → T (compare_is_eq o) × T (compare_is_eq rest)
then_eq Ordering.lt rest t = absurd t
then_eq Ordering.eq rest t = (tt, t)
then_eq Ordering.gt rest t = absurd t

pub order_same : (m k : Factors) → T (compare_is_eq (order m k)) → m ≡ k
order_same [] [] t = refl
order_same [] (j ∷ k) t = absurd t
order_same (i ∷ m) [] t = absurd t
order_same (i ∷ m) (j ∷ k) t =
    let both = then_eq (compare i j) (order m k) t in
    ap₂ ◌∷◌ (eqb→eq i j both.0) (order_same m k both.1)
