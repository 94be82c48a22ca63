-- The ring laws of the whole numbers, and the solver of identities for them.
-- Main results: `add_mul_ℤ`, `mul_assoc_ℤ`, `ℤ-ring`, `readsℤ`. Assume nothing.
use mathlib.Core.Path.{◌≡◌, refl, sym, ap, ap₂, ◌∙◌}
use mathlib.Core.List.{List, [], ◌∷◌}
use Prim.Native.Nat.{ℕ, zero, suc, ◌+◌, ◌*◌}
use lib.IntN.{
  ℤ,
  pos,
  negsuc,
  one,
  suc_ℤ,
  pred_ℤ,
  neg_ℤ,
  ◌+ℤ◌,
  ◌-ℤ◌,
  ◌*ℤ◌,
  +ℤ_assoc,
  +ℤ_comm,
  +ℤ_idl,
  +ℤ_idr,
  +ℤ_invr,
  neg_ℤ-neg_ℤ,
  suc_ℤ-+ℤ,
  pred_ℤ-+ℤ,
  zero-*ℤ,
  *ℤ-one,
  *ℤ_comm,
  suc_ℤ-*ℤ,
  pred_ℤ-*ℤ,
}
use Rattle.whole.proofs.Commutative.{Ring, combined}
use Rattle.whole.proofs.Solver.{Reading, plus, times, ring, reads}

-- a law that holds at 0 and passes up and down holds at each whole number
walk : (P : ℤ → Type 0) → P (pos 0) → ((m : ℤ) → P m → P (suc_ℤ m)) → ((m : ℤ) → P m → P (pred_ℤ m)) → (m : ℤ) → P m
walk P base up down (pos zero) = base
walk P base up down (pos (suc n)) = up (pos n) (walk P base up down (pos n))
walk P base up down (negsuc zero) = down (pos 0) base
walk P base up down (negsuc (suc n)) = down (negsuc n) (walk P base up down (negsuc n))

-- the last two of three summands change places
swap : (a b c : ℤ) → a +ℤ b +ℤ c ≡ a +ℤ c +ℤ b
swap a b c = +ℤ_assoc a b c ∙ ap (λ x. a +ℤ x) (+ℤ_comm b c) ∙ sym (+ℤ_assoc a c b)

-- The product distributes over the sum, on both sides.
pub add_mul_ℤ : (a b c : ℤ) → (a +ℤ b) *ℤ c ≡ a *ℤ c +ℤ b *ℤ c
add_mul_ℤ a b c = walk (λ a. (a +ℤ b) *ℤ c ≡ a *ℤ c +ℤ b *ℤ c)
    (ap (λ x. x *ℤ c) (+ℤ_idl b) ∙ sym (ap (λ x. x +ℤ b *ℤ c) (zero-*ℤ c) ∙ +ℤ_idl (b *ℤ c)))
    (λ m h. ap (λ x. x *ℤ c) (suc_ℤ-+ℤ m b) ∙ suc_ℤ-*ℤ (m +ℤ b) c ∙ ap (λ x. x +ℤ c) h
    ∙ swap (m *ℤ c) (b *ℤ c) c ∙ ap (λ x. x +ℤ b *ℤ c) (sym (suc_ℤ-*ℤ m c)))
    (λ m h. ap (λ x. x *ℤ c) (pred_ℤ-+ℤ m b) ∙ pred_ℤ-*ℤ (m +ℤ b) c ∙ ap (λ x. x -ℤ c) h
    ∙ swap (m *ℤ c) (b *ℤ c) (neg_ℤ c) ∙ ap (λ x. x +ℤ b *ℤ c) (sym (pred_ℤ-*ℤ m c)))
    a

pub mul_add_ℤ : (a b c : ℤ) → a *ℤ (b +ℤ c) ≡ a *ℤ b +ℤ a *ℤ c
mul_add_ℤ a b c = *ℤ_comm a (b +ℤ c) ∙ add_mul_ℤ b c a ∙ ap₂ ◌+ℤ◌ (*ℤ_comm b a) (*ℤ_comm c a)

neg_mul_ℤ : (a b : ℤ) → neg_ℤ a *ℤ b ≡ neg_ℤ (a *ℤ b)
neg_mul_ℤ (pos zero) b = zero-*ℤ b ∙ ap neg_ℤ (sym (zero-*ℤ b))
neg_mul_ℤ (pos (suc a)) (pos b) = refl
neg_mul_ℤ (pos (suc a)) (negsuc b) = sym (neg_ℤ-neg_ℤ (pos (suc a * suc b)))
neg_mul_ℤ (negsuc a) (pos b) = sym (neg_ℤ-neg_ℤ (pos (suc a * b)))
neg_mul_ℤ (negsuc a) (negsuc b) = refl

-- The product is associative.
pub mul_assoc_ℤ : (a b c : ℤ) → a *ℤ b *ℤ c ≡ a *ℤ (b *ℤ c)
mul_assoc_ℤ a b c = walk (λ a. a *ℤ b *ℤ c ≡ a *ℤ (b *ℤ c))
    (ap (λ x. x *ℤ c) (zero-*ℤ b) ∙ zero-*ℤ c ∙ sym (zero-*ℤ (b *ℤ c)))
    (λ m h. ap (λ x. x *ℤ c) (suc_ℤ-*ℤ m b) ∙ add_mul_ℤ (m *ℤ b) b c ∙ ap (λ x. x +ℤ b *ℤ c) h ∙ sym (suc_ℤ-*ℤ m (b *ℤ c)))
    (λ m h. ap (λ x. x *ℤ c) (pred_ℤ-*ℤ m b) ∙ add_mul_ℤ (m *ℤ b) (neg_ℤ b) c ∙ ap₂ ◌+ℤ◌ h (neg_mul_ℤ b c) ∙ sym (pred_ℤ-*ℤ m (b *ℤ c)))
    a

pub mul_one_ℤ : (a : ℤ) → a *ℤ pos 1 ≡ a
unfolding one
mul_one_ℤ a = *ℤ-one a

-- The whole numbers are a commutative ring.
abbrev pub ℤ-ring : Ring ℤ
ℤ-ring = record {
  add = ◌+ℤ◌;
  mul = ◌*ℤ◌;
  neg = neg_ℤ;
  zero = pos 0;
  one = pos 1;
  add_assoc = +ℤ_assoc;
  add_comm = +ℤ_comm;
  add_zero = +ℤ_idr;
  add_inverse = +ℤ_invr;
  mul_assoc = mul_assoc_ℤ;
  mul_comm = *ℤ_comm;
  mul_one = mul_one_ℤ;
  mul_add = mul_add_ℤ;
}

-- Sums and products of natural numbers, read as the ring's.
abbrev pub plus_pos : {values : List ℤ} (m n : ℕ) → Reading ℤ-ring values (pos m) → Reading ℤ-ring values (pos n) → Reading ℤ-ring values (pos (m + n))
plus_pos m n r s = plus (pos m) (pos n) r s

abbrev pub times_pos : {values : List ℤ} (m n : ℕ) → Reading ℤ-ring values (pos m) → Reading ℤ-ring values (pos n) → Reading ℤ-ring values (pos (m * n))
times_pos m n r s = times (pos m) (pos n) r s

-- What finds the readings over the whole numbers, called as in the four examples below.
pub ruleset readsℤ = (plus_pos, times_pos, reads)

example_expanded : (a b c d : ℤ) → (a +ℤ b) *ℤ (c +ℤ d) ≡ a *ℤ c +ℤ a *ℤ d +ℤ b *ℤ c +ℤ b *ℤ d
example_expanded a b c d = ring ℤ-ring (a ∷ b ∷ c ∷ d ∷ []) (search readsℤ depth 20) refl

example_cancelled : (a b : ℤ) → a *ℤ (b -ℤ b) ≡ pos 0
example_cancelled a b = ring ℤ-ring (a ∷ b ∷ []) (search readsℤ depth 20) refl

example_crossed : (a c e : ℤ) (b d f : ℕ) → (a *ℤ pos d +ℤ c *ℤ pos b) *ℤ pos f +ℤ e *ℤ pos (b * d) ≡ a *ℤ pos (d * f) +ℤ (c *ℤ pos f +ℤ e *ℤ pos d) *ℤ pos b
example_crossed a c e b d f = ring ℤ-ring (a ∷ c ∷ e ∷ pos b ∷ pos d ∷ pos f ∷ []) (search readsℤ depth 20) refl

-- from an equation h, times c
example_combined : (a b c d : ℤ) → a +ℤ b ≡ d → c *ℤ a ≡ c *ℤ d -ℤ c *ℤ b
example_combined a b c d h = combined ℤ-ring c h (ring ℤ-ring (a ∷ b ∷ c ∷ d ∷ []) (search readsℤ depth 20) refl)
