-- What is known of a step's answer, whether it was made or stopped, and how it goes through the steps that follow.
-- Main results: `Answers`, `answers_made`, `answers_stopped`, `answers_bind`, `answers_because`, `answers_tab`. Assume nothing.
use mathlib.Core.Path.{◌≡◌, refl, subst}
use Prim.Native.Nat.{ℕ, zero, suc}
use Rattle.fraction.specs.Made.{Made, made, stopped, ◌>>=◌, tab, because}

-- What a step answers: something with the property P, or a stop with the property S.
pub data Answers {ℓ} {R : Type 0} {A : Type ℓ} (P : A → Type 0) (S : R → Type 0) : Made R A → Type ℓ where
  if_made : {a : A} → P a → Answers P S (made a)
  if_stopped : {why : R} → S why → Answers P S (stopped why)

module _ {ℓ} {R : Type 0} {A : Type ℓ} {P : A → Type 0} {S : R → Type 0} where
  -- What is made has the first property, what stopped the second.
  pub answers_made : {step : Made R A} {a : A} → Answers P S step → step ≡ made a → P a
  answers_made {a = a} answers h = by (subst (Answers P S) h answers)
    where
      by : Answers P S (made a) → P a
      by (if_made p) = p

  pub answers_stopped : {step : Made R A} {why : R} → Answers P S step → step ≡ stopped why → S why
  answers_stopped {why = why} answers h = by (subst (Answers P S) h answers)
    where
      by : Answers P S (stopped why) → S why
      by (if_stopped s) = s

-- Of what is made another property may be known.
pub answers_with {ℓ} : {R : Type 0} {A : Type ℓ} {P Q : A → Type 0} {S : R → Type 0} {step : Made R A} → Answers P S step → ((a : A) → step ≡ made a → Q a) → Answers Q S step
answers_with (if_made {a = a} p) all = if_made (all a refl)
answers_with (if_stopped s) all = if_stopped s

pub answers_then {ℓ} : {R : Type 0} {A : Type ℓ} {P Q : A → Type 0} {S : R → Type 0} {step : Made R A} → Answers P S step → ((a : A) → P a → Q a) → Answers Q S step
answers_then (if_made {a = a} p) all = if_made (all a p)
answers_then (if_stopped s) all = if_stopped s

-- The first stop ends all that follows, and what is made goes on.
pub answers_bind {ℓ κ} : {R : Type 0} {A : Type ℓ} {B : Type κ} {P : A → Type 0} {Q : B → Type 0} {S : R → Type 0} {step : Made R A} {next : A → Made R B} → Answers P S step → ((a : A) → P a → Answers Q S (next a)) → Answers Q S (step >>= next)
unfolding ◌>>=◌
answers_bind (if_made {a = a} p) after = after a p
answers_bind (if_stopped s) after = if_stopped s

-- A reason told in other terms has what those terms say.
pub answers_because {ℓ} : {R T : Type 0} {A : Type ℓ} {P : A → Type 0} {S : R → Type 0} {U : T → Type 0} {step : Made R A} (told : R → T) → Answers P S step → ((why : R) → S why → U (told why)) → Answers P U (because told step)
unfolding because
answers_because told (if_made p) says = if_made p
answers_because told (if_stopped {why = why} s) says = if_stopped (says why s)

-- A list stops as one of its members does.
pub answers_tab {ℓ} : {R : Type 0} {A : Type ℓ} {P : A → Type 0} {S : R → Type 0} {g : ℕ → Made R A} → ((i : ℕ) → Answers P S (g i)) → (count from : ℕ) → Answers (λ list. Unit) S (tab count from g)
unfolding tab
answers_tab each zero from = if_made tt
answers_tab each (suc count) from = answers_bind (each from) (λ a p. answers_bind (answers_tab each count (suc from)) (λ rest q. if_made tt))
