-- A solver of ring identities, for any commutative ring: both sides are brought to a normal form.
-- Main results: `Reading`, `normal`, `ring`, `reads`. Assume nothing.
use mathlib.Core.Path.{◌≡◌, refl, sym, ap, ap₂, ◌∙◌}
use mathlib.Core.List.{List, [], ◌∷◌}
use mathlib.Core.Bool.{Bool, true, false, cond, beq}
use Prim.Native.Nat.{ℕ, zero, suc, Ordering}
use lib.Dec.{T, compare_is_eq, leb}
use Rattle.whole.proofs.Commutative.{Ring, zero_add, one_mul, add_left_comm, mul_left_comm, add_mul, add_neg_cancel, neg_add_cancel, neg_neg, mul_zero, mul_neg, neg_mul}
use Rattle.whole.proofs.Terms.{Factors, term, Terms, with_factor, with_factors, order, placed, with_term, sum, scaled, product, order_same}

-- The value x stands in a list, at this place.
pub data At {A : Type 0} : List A → A → Type 0 where
  here : {x : A} {values : List A} → At (x ∷ values) x
  later : {x y : A} {values : List A} → At values x → At (y ∷ values) x

abbrev pub place : {A : Type 0} {values : List A} {x : A} → At values x → ℕ
place here = zero
place (later a) = suc (place a)

-- the first places in one step, and six places passed in one step, which keeps the search shallow
abbrev pub second : {A : Type 0} {a b : A} {values : List A} → At (a ∷ b ∷ values) b
second = later here

abbrev pub third : {A : Type 0} {a b c : A} {values : List A} → At (a ∷ b ∷ c ∷ values) c
third = later second

abbrev pub fourth : {A : Type 0} {a b c d : A} {values : List A} → At (a ∷ b ∷ c ∷ d ∷ values) d
fourth = later third

abbrev pub fifth : {A : Type 0} {a b c d e : A} {values : List A} → At (a ∷ b ∷ c ∷ d ∷ e ∷ values) e
fifth = later fourth

abbrev pub sixth : {A : Type 0} {a b c d e f : A} {values : List A} → At (a ∷ b ∷ c ∷ d ∷ e ∷ f ∷ values) f
sixth = later fifth

abbrev pub six_later : {A : Type 0} {a b c d e f x : A} {values : List A} → At values x → At (a ∷ b ∷ c ∷ d ∷ e ∷ f ∷ values) x
six_later at = later (later (later (later (later (later at)))))

module _ {A : Type 0} (R : Ring A) where
  open R use {add as ◌⊕◌, mul as ◌⊗◌, neg, zero as 𝟘, one as 𝟙, add_assoc, add_zero, mul_assoc, mul_comm, mul_one, mul_add}

  infixl 70 ◌⊕◌
  infixl 71 ◌⊗◌
  -- How a value is built of the listed values by the operations of the ring.
  pub data Reading (values : List A) : A → Type 0 where
    var : {x : A} → At values x → Reading values x
    nil : Reading values 𝟘
    unit : Reading values 𝟙
    plus : (x y : A) → Reading values x → Reading values y → Reading values (x ⊕ y)
    times : (x y : A) → Reading values x → Reading values y → Reading values (x ⊗ y)
    minus : (x : A) → Reading values x → Reading values (neg x)
    seen : {x y : A} → x ≡ y → Reading values x → Reading values y

  abbrev pub normal : {values : List A} {x : A} → Reading values x → Terms
  normal (var a) = term true (place a ∷ []) ∷ []
  normal nil = []
  normal unit = term true [] ∷ []
  normal (plus x y r s) = sum (normal r) (normal s)
  normal (times x y r s) = product (normal r) (normal s)
  normal (minus x r) = scaled false [] (normal r)
  normal (seen same r) = normal r

  -- what the parts of a normal form mean
  at : List A → ℕ → A
  at [] i = 𝟘
  at (x ∷ xs) zero = x
  at (x ∷ xs) (suc i) = at xs i

  at_place : {values : List A} {x : A} → (a : At values x) → at values (place a) ≡ x
  unfolding at
  at_place here = refl
  at_place (later a) = at_place a

  signed : Bool → A → A
  signed true x = x
  signed false x = neg x

  signed_mul : (s t : Bool) (x y : A) → signed (beq s t) (x ⊗ y) ≡ signed s x ⊗ signed t y
  unfolding signed
  signed_mul true true x y = refl
  signed_mul true false x y = sym (mul_neg R x y)
  signed_mul false true x y = sym (neg_mul R x y)
  signed_mul false false x y = sym (neg_mul R x (neg y) ∙ ap neg (mul_neg R x y) ∙ neg_neg R (x ⊗ y))

  module _ (values : List A) where
    factors : Factors → A
    factors [] = 𝟙
    factors (i ∷ m) = at values i ⊗ factors m

    terms : Terms → A
    terms [] = 𝟘
    terms (term s m ∷ p) = signed s (factors m) ⊕ terms p

    with_factor_means : (i : ℕ) (m : Factors) → factors (with_factor i m) ≡ at values i ⊗ factors m
    unfolding factors
    with_factor_means i [] = refl
    with_factor_means i (j ∷ m) = by (leb i j) (with_factor_means i m)
      where
        by : (b : Bool) → factors (with_factor i m) ≡ at values i ⊗ factors m
            → factors (cond b (i ∷ j ∷ m) (j ∷ with_factor i m)) ≡ at values i ⊗ (at values j ⊗ factors m)
        by true ih = refl
        by false ih = ap (λ x. at values j ⊗ x) ih ∙ mul_left_comm R (at values j) (at values i) (factors m)

    with_factors_means : (m k : Factors) → factors (with_factors m k) ≡ factors m ⊗ factors k
    unfolding factors
    with_factors_means [] k = sym (one_mul R (factors k))
    with_factors_means (i ∷ m) k = with_factor_means i (with_factors m k) ∙ ap (λ x. at values i ⊗ x) (with_factors_means m k) ∙ sym (mul_assoc (at values i) (factors m) (factors k))

    with_term_means : (s : Bool) (m : Factors) (p : Terms) → terms (with_term s m p) ≡ signed s (factors m) ⊕ terms p
    unfolding terms signed
    with_term_means s m [] = refl
    with_term_means s m (term t k ∷ p) = by (order m k) s t (order_same m k) (with_term_means s m p)
      where
        by : (o : Ordering) (s t : Bool) → (T (compare_is_eq o) → m ≡ k) → terms (with_term s m p) ≡ signed s (factors m) ⊕ terms p
            → terms (placed o s m t k p (with_term s m p)) ≡ signed s (factors m) ⊕ (signed t (factors k) ⊕ terms p)
        by Ordering.lt s t same ih = refl
        by Ordering.eq true true same ih = refl
        by Ordering.eq true false same ih = sym (ap (λ x. factors x ⊕ (neg (factors k) ⊕ terms p)) (same tt) ∙ add_neg_cancel R (factors k) (terms p))
        by Ordering.eq false true same ih = sym (ap (λ x. neg (factors x) ⊕ (factors k ⊕ terms p)) (same tt) ∙ neg_add_cancel R (factors k) (terms p))
        by Ordering.eq false false same ih = refl
        by Ordering.gt s t same ih = ap (λ x. signed t (factors k) ⊕ x) ih ∙ add_left_comm R (signed t (factors k)) (signed s (factors m)) (terms p)

    sum_means : (p q : Terms) → terms (sum p q) ≡ terms p ⊕ terms q
    unfolding terms
    sum_means [] q = sym (zero_add R (terms q))
    sum_means (term s m ∷ p) q = with_term_means s m (sum p q) ∙ ap (λ x. signed s (factors m) ⊕ x) (sum_means p q) ∙ sym (add_assoc _ _ _)

    scaled_means : (s : Bool) (m : Factors) (p : Terms) → terms (scaled s m p) ≡ signed s (factors m) ⊗ terms p
    unfolding terms
    scaled_means s m [] = sym (mul_zero R _)
    scaled_means s m (term t k ∷ p) =
        with_term_means (beq s t) (with_factors m k) (scaled s m p)
        ∙ ap₂ ◌⊕◌ (ap (signed (beq s t)) (with_factors_means m k) ∙ signed_mul s t (factors m) (factors k)) (scaled_means s m p) ∙ sym (mul_add _ _ _)

    product_means : (p q : Terms) → terms (product p q) ≡ terms p ⊗ terms q
    unfolding terms
    product_means [] q = sym (mul_comm 𝟘 (terms q) ∙ mul_zero R (terms q))
    product_means (term s m ∷ p) q = sum_means (scaled s m q) (product p q) ∙ ap₂ ◌⊕◌ (scaled_means s m q) (product_means p q) ∙ sym (add_mul R _ _ _)

    -- The normal form has the value that was read.
    normal_means : {x : A} (r : Reading values x) → terms (normal r) ≡ x
    unfolding terms factors signed
    normal_means (var a) = add_zero _ ∙ mul_one _ ∙ at_place a
    normal_means nil = refl
    normal_means unit = add_zero 𝟙
    normal_means (plus x y r s) = sum_means (normal r) (normal s) ∙ ap₂ ◌⊕◌ (normal_means r) (normal_means s)
    normal_means (times x y r s) = product_means (normal r) (normal s) ∙ ap₂ ◌⊗◌ (normal_means r) (normal_means s)
    normal_means (minus x r) = scaled_means false [] (normal r) ∙ ap (λ y. neg 𝟙 ⊗ y) (normal_means r) ∙ neg_mul R 𝟙 x ∙ ap neg (one_mul R x)
    normal_means (seen same r) = normal_means r ∙ same

  -- the two sides of an identity, read
  pub data Sides (values : List A) : A → A → Type 0 where
    sides : {x y : A} → Reading values x → Reading values y → Sides values x y

  abbrev pub Agree : {values : List A} {x y : A} → Sides values x y → Type 0
  Agree (sides r s) = normal r ≡ normal s

  -- An identity holds if both sides have the same normal form.
  pub ring : {x y : A} (values : List A) (both : Sides values x y) → Agree both → x ≡ y
  ring values (sides r s) same = sym (normal_means values r) ∙ ap (terms values) same ∙ normal_means values s

-- What finds the readings. An identity in a and b is proved by `ring R (a ∷ b ∷ []) (search reads depth 20) refl`.
pub ruleset reads = (sides, plus, times, minus, nil, unit, var, here, second, third, fourth, fifth, sixth, six_later)
