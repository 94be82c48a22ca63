-- The numbers of the refusals tell the refusals apart.
-- Main result: `number_one_to_one`. Assumes nothing.
use mathlib.Core.Path.{◌≡◌, refl, sym, ap, ◌∙◌}
use Rattle.std.specs.Prelude.{ℕ, ◌-◌, List, [], ◌∷◌, get_or}
use Rattle.answer.specs.Refusals.{number_of}
use Rattle.answer.specs.declared.Reason.{Reason}
use Rattle.answer.specs.declared.Reason.TheVariants as reason

-- the refusals from 1 on, in the order of their numbers
ordered : List Reason
ordered = reason.Space ∷ reason.Short ∷ reason.Count ∷ reason.Length ∷ reason.Term ∷ reason.Pair ∷ reason.Range ∷ reason.Row ∷ []

refusal_of : ℕ → Reason
refusal_of number = get_or ordered (number - 1) reason.Row

told_back : (why : Reason) → refusal_of (number_of why) ≡ why
unfolding number_of refusal_of ordered
told_back reason.Space = refl
told_back reason.Short = refl
told_back reason.Count = refl
told_back reason.Length = refl
told_back reason.Term = refl
told_back reason.Pair = refl
told_back reason.Range = refl
told_back reason.Row = refl

pub number_one_to_one : (a b : Reason) → number_of a ≡ number_of b → a ≡ b
number_one_to_one a b same = sym (told_back a) ∙ ap refusal_of same ∙ told_back b
