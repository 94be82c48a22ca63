-- What a step of the rules answers, and a list whose members are made in rising order.
-- Main definitions: `Made`, `◌>>=◌`, `tab`. Assumes nothing.
use Rattle.std.specs.Prelude.{List, [], ◌∷◌, ℕ, zero, suc}

-- What was made, or why it stopped.
pub data Made {ℓ} (R : Type 0) (A : Type ℓ) : Type ℓ where
  made : A → Made R A
  stopped : R → Made R A

-- The first stop ends all that follows.
infixl 72 ◌>>=◌
unfoldable pub ◌>>=◌ {ℓ κ} : {R : Type 0} {A : Type ℓ} {B : Type κ} → Made R A → (A → Made R B) → Made R B
made a >>= next = next a
stopped why >>= next = stopped why

-- `count` members, for the indices from `from` upward, each as `g` makes it; the first stop ends it
unfoldable pub tab {ℓ} : {R : Type 0} {A : Type ℓ} → (count from : ℕ) → (ℕ → Made R A) → Made R (List A)
tab zero from g = made []
tab (suc count) from g = g from >>= λ a. tab count (suc from) g >>= λ rest. made (a ∷ rest)

-- the same with the reason told in other terms
unfoldable pub because {ℓ} : {R S : Type 0} {A : Type ℓ} → (R → S) → Made R A → Made S A
because told (made a) = made a
because told (stopped why) = stopped (told why)
