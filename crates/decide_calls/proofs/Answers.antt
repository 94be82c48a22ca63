-- What is said of an answer determines it.
-- Main results: `said_determines`, `answers_equal`. Assume nothing.
use mathlib.Core.Path.{◌≡◌, refl, sym, ap, ◌∙◌}
use Prim.Native.Nat.{ℕ}
use Rattle.answer.specs.declared.Answer.{Answer}
use Rattle.answer.specs.declared.Answer.TheVariants.{Entailed, NotEntailed, Contradictory, Refused}
use Rattle.answer.specs.Said.{Word, entailed, not_entailed, contradictory, refused, Said, said}

-- the answer of which this is said
answer_of : Said → Answer
answer_of s = by s.word
  where
    by : Word → Answer
    by entailed = Entailed s.count
    by not_entailed = NotEntailed s.count
    by contradictory = Contradictory s.place
    by (refused number) = Refused number s.place

-- Word, place and count determine the answer:
again : (a : Answer) → answer_of (said a) ≡ a
unfolding answer_of said
again (Entailed solved) = refl
again (NotEntailed solved) = refl
again (Contradictory place) = refl
again (Refused number place) = refl

pub said_determines : (a b : Answer) → said a ≡ said b → a ≡ b
said_determines a b same = sym (again a) ∙ ap answer_of same ∙ again b

-- word and count do, where nothing is contradictory or refused, since the place is then 0.
pub answers_equal : (a b : Answer) → (said a).word ≡ (said b).word → (said a).count ≡ (said b).count → ((said a).word ≡ contradictory → ⊥) → ((number : ℕ) → (said a).word ≡ refused number → ⊥) → a ≡ b
unfolding said
answers_equal a b word count met accepted =
    said_determines a b (λ i. record { word = word i; place = (no_place a met accepted ∙ sym (no_place b (λ e. met (word ∙ e)) (λ n e. accepted n (word ∙ e)))) i; count = count i })
  where
    no_place : (a : Answer) → ((said a).word ≡ contradictory → ⊥) → ((number : ℕ) → (said a).word ≡ refused number → ⊥) → (said a).place ≡ 0
    no_place (Entailed solved) met accepted = refl
    no_place (NotEntailed solved) met accepted = refl
    no_place (Contradictory place) met accepted = absurd (met refl)
    no_place (Refused number place) met accepted = absurd (accepted number refl)
