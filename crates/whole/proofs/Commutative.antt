-- Commutative rings: the laws that make one, and what follows from them.
-- Main results: `Ring`, `mul_zero`, `mul_neg`, `equal_of_difference`, `mul_right_cancel`, `combined`. Assume nothing.
use mathlib.Core.Path.{◌≡◌, sym, ap, ap₂, ◌∙◌}

-- A commutative ring: its operations and their laws.
pub record Ring (A : Type 0) : Type 0 where
  pub add : A → A → A
  pub mul : A → A → A
  pub neg : A → A
  pub zero : A
  pub one : A
  pub add_assoc : (a b c : A) → add (add a b) c ≡ add a (add b c)
  pub add_comm : (a b : A) → add a b ≡ add b a
  pub add_zero : (a : A) → add a zero ≡ a
  pub add_inverse : (a : A) → add a (neg a) ≡ zero
  pub mul_assoc : (a b c : A) → mul (mul a b) c ≡ mul a (mul b c)
  pub mul_comm : (a b : A) → mul a b ≡ mul b a
  pub mul_one : (a : A) → mul a one ≡ a
  pub mul_add : (a b c : A) → mul a (add b c) ≡ add (mul a b) (mul a c)

module _ {A : Type 0} (R : Ring A) where
  open R use {add as ◌⊕◌, mul as ◌⊗◌, neg, zero as 𝟘, one as 𝟙, add_assoc, add_comm, add_zero, add_inverse, mul_assoc, mul_comm, mul_one, mul_add}

  infixl 70 ◌⊕◌
  infixl 71 ◌⊗◌
  -- The laws from the other side.
  pub zero_add : (a : A) → 𝟘 ⊕ a ≡ a
  zero_add a = add_comm 𝟘 a ∙ add_zero a

  pub one_mul : (a : A) → 𝟙 ⊗ a ≡ a
  one_mul a = mul_comm 𝟙 a ∙ mul_one a

  pub add_left_comm : (a b c : A) → a ⊕ (b ⊕ c) ≡ b ⊕ (a ⊕ c)
  add_left_comm a b c = sym (add_assoc a b c) ∙ ap (λ x. x ⊕ c) (add_comm a b) ∙ add_assoc b a c

  pub mul_left_comm : (a b c : A) → a ⊗ (b ⊗ c) ≡ b ⊗ (a ⊗ c)
  mul_left_comm a b c = sym (mul_assoc a b c) ∙ ap (λ x. x ⊗ c) (mul_comm a b) ∙ mul_assoc b a c

  pub add_mul : (a b c : A) → (a ⊕ b) ⊗ c ≡ a ⊗ c ⊕ b ⊗ c
  add_mul a b c = mul_comm (a ⊕ b) c ∙ mul_add c a b ∙ ap₂ ◌⊕◌ (mul_comm c a) (mul_comm c b)

  -- A number and its opposite cancel in front of a third.
  pub add_neg_cancel : (a b : A) → a ⊕ (neg a ⊕ b) ≡ b
  add_neg_cancel a b = sym (add_assoc a (neg a) b) ∙ ap (λ x. x ⊕ b) (add_inverse a) ∙ zero_add b

  pub neg_add_cancel : (a b : A) → neg a ⊕ (a ⊕ b) ≡ b
  neg_add_cancel a b = add_left_comm (neg a) a b ∙ add_neg_cancel a b

  pub add_left_cancel : (a : A) {b c : A} → a ⊕ b ≡ a ⊕ c → b ≡ c
  add_left_cancel a {b} {c} h = sym (neg_add_cancel a b) ∙ ap (λ x. neg a ⊕ x) h ∙ neg_add_cancel a c

  -- Only the opposite gives zero.
  pub opposite_unique : (a b : A) → a ⊕ b ≡ 𝟘 → b ≡ neg a
  opposite_unique a b h = add_left_cancel a (h ∙ sym (add_inverse a))

  -- The laws of opposites and of zero.
  pub neg_neg : (a : A) → neg (neg a) ≡ a
  neg_neg a = sym (opposite_unique (neg a) a (add_comm (neg a) a ∙ add_inverse a))

  -- Two numbers whose difference is zero are equal.
  pub equal_of_difference : (a b : A) → a ⊕ neg b ≡ 𝟘 → a ≡ b
  equal_of_difference a b h = opposite_unique (neg b) a (add_comm (neg b) a ∙ h) ∙ neg_neg b

  pub mul_zero : (a : A) → a ⊗ 𝟘 ≡ 𝟘
  mul_zero a = add_left_cancel (a ⊗ 𝟘) (sym (mul_add a 𝟘 𝟘) ∙ ap (λ x. a ⊗ x) (add_zero 𝟘) ∙ sym (add_zero (a ⊗ 𝟘)))

  pub mul_neg : (a b : A) → a ⊗ neg b ≡ neg (a ⊗ b)
  mul_neg a b = opposite_unique (a ⊗ b) (a ⊗ neg b) (sym (mul_add a b (neg b)) ∙ ap (λ x. a ⊗ x) (add_inverse b) ∙ mul_zero a)

  pub neg_mul : (a b : A) → neg a ⊗ b ≡ neg (a ⊗ b)
  neg_mul a b = mul_comm (neg a) b ∙ mul_neg b a ∙ ap neg (mul_comm b a)

  -- A factor cancels if only zero times it is zero.
  pub mul_right_cancel : (c : A) → ((a : A) → a ⊗ c ≡ 𝟘 → a ≡ 𝟘) → (a b : A) → a ⊗ c ≡ b ⊗ c → a ≡ b
  mul_right_cancel c only a b h =
      equal_of_difference a b (only (a ⊕ neg b) (add_mul a (neg b) c ∙ ap₂ ◌⊕◌ h (neg_mul b c) ∙ add_inverse (b ⊗ c)))

  -- An equation follows from another, times c, where it differs from it by an identity.
  pub combined : (c : A) {p q x y : A} → p ≡ q → c ⊗ q ⊕ x ≡ c ⊗ p ⊕ y → x ≡ y
  combined c {p} {q} {x} {y} h differ = add_left_cancel (c ⊗ q) (differ ∙ ap (λ z. c ⊗ z ⊕ y) h)
