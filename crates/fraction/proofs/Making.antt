-- What it takes for a step of the rules to be made, and what stops it.
-- Main results: `bind_made`, `because_made`, `tab_length`, `tab_member`, `tab_made`, `tab_stopped`. Assume nothing.
use mathlib.Core.Path.{◌≡◌, refl, ap, ◌∙◌}
use mathlib.Core.List.{List, [], ◌∷◌}
use Prim.Native.Nat.{ℕ, zero, suc, ◌+◌, ◌<◌}
use native.Mathlib.Nat.{add-zero, add-suc, suc-add}
use native.Mathlib.Omega.{arith}
use lib.ListN.{length, get_or}
use Rattle.fraction.specs.Made.{Made, made, stopped, ◌>>=◌, tab, because}

module _ {ℓ} {R : Type 0} {A : Type ℓ} where
  -- What stopped is not made.
  pub stopped_not_made : {why : R} {a : A} → ◌≡◌ {A = Made R A} (stopped why) (made a) → ⊥
  stopped_not_made h = let no_way : ◌≡◌ {A = ℕ} 0 1 = cc in omega arith

-- A step that is made had its first part made, and its second part of that.
pub bind_made {ℓ κ} : {R : Type 0} {A : Type ℓ} {B : Type κ} (first : Made R A) (next : A → Made R B) (b : B) → first >>= next ≡ made b → (a : A) × (first ≡ made a) × (next a ≡ made b)
unfolding ◌>>=◌
bind_made (made a) next b h = (a, refl, h)
bind_made (stopped why) next b h = absurd (stopped_not_made h)

-- What is told in other terms was made before.
pub because_made {ℓ} : {R S : Type 0} {A : Type ℓ} (told : R → S) (step : Made R A) (a : A) → because told step ≡ made a → step ≡ made a
unfolding because
because_made told (made b) a h = cc
because_made told (stopped why) a h = absurd (stopped_not_made h)

module _ {ℓ} {R : Type 0} {A : Type ℓ} (g : ℕ → Made R A) where
  -- the first member and the rest, of a list that is made
  tab_parts : (count from : ℕ) (list : List A) → tab (suc count) from g ≡ made list → (a : A) × (rest : List A) × (g from ≡ made a) × (tab count (suc from) g ≡ made rest) × (list ≡ a ∷ rest)
  unfolding tab
  tab_parts count from list h =
      let (a, first, after) = bind_made (g from) _ list h in
      let (rest, second, same) = bind_made (tab count (suc from) g) (λ rest. made (a ∷ rest)) list after in
      (a, rest, first, second, cc)

  -- A list that is made has as many members as were asked for.
  pub tab_length : (count from : ℕ) (list : List A) → tab count from g ≡ made list → length list ≡ count
  unfolding tab
  tab_length zero from list h = let empty : list ≡ [] = cc in ap length empty
  tab_length (suc count) from list h =
      let (a, rest, first, second, same) = tab_parts count from list h in
      ap length same ∙ ap suc (tab_length count (suc from) rest second)

  -- Each member of a list that is made is what g makes at its index.
  pub tab_member : (count from : ℕ) (list : List A) → tab count from g ≡ made list → (d : A) (i : ℕ) → i < count → g (from + i) ≡ made (get_or list i d)
  tab_member zero from list h d i below = absurd (omega arith)
  tab_member (suc count) from list h d i below =
      let (a, rest, first, second, same) = tab_parts count from list h in
      by i below a rest first same (tab_member count (suc from) rest second d)
    where
      by : (i : ℕ) → i < suc count → (a : A) (rest : List A) → g from ≡ made a → list ≡ a ∷ rest → ((i : ℕ) → i < count → g (suc from + i) ≡ made (get_or rest i d)) → g (from + i) ≡ made (get_or list i d)
      by zero below a rest first same later = rw (add-zero, same) first
      by (suc i) below a rest first same later = rw (add-suc, ← suc-add, same) (later i (omega arith))

  -- If g makes every member, the list is made.
  pub tab_made : (count from : ℕ) → ((i : ℕ) → i < count → (a : A) × (g (from + i) ≡ made a)) → (list : List A) × (tab count from g ≡ made list)
  unfolding tab ◌>>=◌
  tab_made zero from all = ([], refl)
  tab_made (suc count) from all =
      let (a, first) = all 0 (omega arith) in
      let here : g from ≡ made a = rw add-zero at first in
      let (rest, second) = tab_made count (suc from) (λ i below. let (b, later) = all (suc i) (omega arith) in (b, rw (suc-add, ← add-suc) later)) in
      (a ∷ rest, rw (here, second))

  -- The first stop is the list's.
  pub tab_stopped : (count from i : ℕ) (why : R) → i < count → ((j : ℕ) → j < i → (a : A) × (g (from + j) ≡ made a)) → g (from + i) ≡ stopped why → tab count from g ≡ stopped why
  unfolding tab ◌>>=◌
  tab_stopped zero from i why below before h = absurd (omega arith)
  tab_stopped (suc count) from zero why below before h =
      let here : g from ≡ stopped why = rw add-zero at h in
      rw here
  tab_stopped (suc count) from (suc i) why below before h =
      let (a, first) = before 0 (omega arith) in
      let here : g from ≡ made a = rw add-zero at first in
      let later = tab_stopped count (suc from) i why (omega arith) (λ j below. let (b, next) = before (suc j) (omega arith) in (b, rw (suc-add, ← add-suc) next)) (rw (suc-add, ← add-suc) h) in
      rw (here, later)
