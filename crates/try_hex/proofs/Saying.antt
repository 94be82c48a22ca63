-- The bytes that a text says, one after the other, and its first line.
-- Main definitions: `ReadTo`, `LineTo`. Main results: `first_at`, `first_beyond`, `first_inside`, `reads_on`, `reads_no_more`, `reads_full`, `line_ends`, `line_goes_on`, `line_is_all`. Assume nothing.
use Rattle.std.specs.Prelude.{Some, None}
use mathlib.Core.Path.{◌≡◌, refl, sym, ap, ◌∙◌}
use mathlib.Core.List.{List, [], ◌∷◌, ◌++◌}
use Prim.Native.Nat.{ℕ, suc, ◌+◌, ◌-◌, ◌*◌, ◌≤◌, ◌<◌}
use native.Mathlib.Nat.{add-zero}
use native.Mathlib.Numerals.{add-one}
use native.Mathlib.Decide.{dec_le}
use native.Mathlib.Omega.{arith}
use lib.ListN.{length, take, drop, get_or, set, length-drop, length-set}
use lib.Seq.{drop-cons, drop-drop, drop-length, take-suc, take_all, get_or-drop}
use borrow.Author.Tests.{eq-eqb, ne_eqb}
use Rattle.try_hex.specs.Digits.{byte_of, first_of, followed_by, bytes_of}
use Rattle.list_text.specs.Wrote.{Wrote}
use Rattle.list_text.proofs.Placing.{wrote_nothing, wrote_byte, wrote_then}
use Rattle.try_hex.specs.Lines.{line_length, LineEnds}

-- A text of fewer than two bytes says nothing.
first_short : (text : List ℕ) → length text < 2 → first_of text ≡ None
unfolding first_of
first_short [] short = refl
first_short (a ∷ []) short = refl
first_short (a ∷ b ∷ rest) short = absurd (omega arith)

module _ (text : List ℕ) (at : ℕ) where
  pub first_beyond : length text < at + 2 → None ≡ first_of (drop at text)
  first_beyond beyond = sym (first_short (drop at text) (rw length-drop (omega arith)))

  pub first_at : at + 2 ≤ length text → byte_of (get_or text at 0) (get_or text (at + 1) 0) ≡ first_of (drop at text)
  unfolding first_of
  first_at inside = sym (rw (drop-cons text at 0 (omega arith), drop-cons text (suc at) 0 (omega arith), add-one))

  pub first_inside : (b : ℕ) → first_of (drop at text) ≡ Some b → at + 2 ≤ length text
  first_inside b said = by (dec_le (at + 2) (length text))
    where
      by : Dec (at + 2 ≤ length text) → at + 2 ≤ length text
      by (yes inside) = inside
      by (no beyond) =
          let nothing = first_beyond (omega arith) in
          let no_way : ◌≡◌ {A = ℕ} 0 1 = cc in
          absurd (omega arith)

-- What a text says: its first byte and what the rest says, or nothing.
says_first : (text : List ℕ) (b : ℕ) → first_of text ≡ Some b → bytes_of text ≡ b ∷ bytes_of (drop 2 text)
unfolding first_of bytes_of followed_by
says_first [] b said = let no_way : ◌≡◌ {A = ℕ} 0 1 = cc in absurd (omega arith)
says_first (high ∷ []) b said = let no_way : ◌≡◌ {A = ℕ} 0 1 = cc in absurd (omega arith)
says_first (high ∷ low ∷ rest) b said = rw said

says_nothing : (text : List ℕ) → first_of text ≡ None → bytes_of text ≡ []
unfolding first_of bytes_of followed_by
says_nothing [] none = refl
says_nothing (high ∷ []) none = refl
says_nothing (high ∷ low ∷ rest) none = rw none

-- What a loop over the text has done: its first k bytes are read, and what it says from place 2k on is to be read.
pub record ReadTo (text bytes₀ bytes : List ℕ) (k : ℕ) : Type 0 where
  pub within : k ≤ length bytes
  pub size : length bytes ≡ length bytes₀
  pub wrote : Wrote (take k (bytes_of text)) 0 bytes₀ bytes k
  pub rest : bytes_of (drop (2 * k) text) ≡ drop k (bytes_of text)

-- Nothing is read at first.
pub read_nothing : (text bytes : List ℕ) → ReadTo text bytes bytes 0
read_nothing text bytes = record { within = omega arith; size = refl; wrote = wrote_nothing 0 bytes; rest = refl }

module _ {text bytes₀ bytes : List ℕ} {k : ℕ} (done : ReadTo text bytes₀ bytes k) where
  module _ {b : ℕ} (said : Some b ≡ first_of (drop (2 * k) text)) where
    next : drop k (bytes_of text) ≡ b ∷ bytes_of (drop (2 * (k + 1)) text)
    next =
        let on : 2 * k + 2 ≡ 2 * (k + 1) = omega arith in
        sym done.rest ∙ says_first (drop (2 * k) text) b (sym said) ∙ ap (λ rest. b ∷ bytes_of rest) (drop-drop 2 (2 * k) text ∙ ap (λ at. drop at text) on)

    more : k < length (bytes_of text)
    more = let one : length (bytes_of text) - k ≡ suc (length (bytes_of (drop (2 * (k + 1)) text))) = sym (length-drop k (bytes_of text)) ∙ ap length next in omega arith

    one_more : take (k + 1) (bytes_of text) ≡ take k (bytes_of text) ++ b ∷ []
    one_more =
        let at-k : get_or (bytes_of text) k 0 ≡ b = ap (λ n. get_or (bytes_of text) n 0) (sym (add-zero k)) ∙ sym (get_or-drop k (bytes_of text) 0 0) ∙ ap (λ l. get_or l 0 0) next in
        rw (add-one, take-suc (bytes_of text) k 0 more, at-k)

    -- One byte more is read from two places.
    pub reads_on : k < length bytes → ReadTo text bytes₀ (set bytes k b) (k + 1)
    reads_on room =
        record {
          within = simp length-set (omega arith);
          size = simp length-set done.size;
          wrote = rw one_more (wrote_then (omega arith) done.wrote (wrote_byte k b bytes room));
          rest = sym (ap (drop 1) next) ∙ drop-drop 1 k (bytes_of text);
        }

  -- Where the text says nothing more, all is read,
  pub reads_no_more : None ≡ first_of (drop (2 * k) text) → Wrote (take (length bytes₀) (bytes_of text)) 0 bytes₀ bytes k
  reads_no_more none =
      let end : length (bytes_of text) - k ≡ 0 = sym (length-drop k (bytes_of text)) ∙ ap length (sym done.rest ∙ says_nothing (drop (2 * k) text) (sym none)) in
      let fits : k ≤ length bytes₀ = omega (arith, done.within, done.size) in
      let all : take (length bytes₀) (bytes_of text) ≡ take k (bytes_of text) = take_all (length bytes₀) (bytes_of text) (omega arith) ∙ sym (take_all k (bytes_of text) (omega arith)) in
      rw all done.wrote

  -- and where there is no more room, what there was room for.
  pub reads_full : length bytes ≤ k → Wrote (take (length bytes₀) (bytes_of text)) 0 bytes₀ bytes k
  reads_full full =
      let here : k ≡ length bytes₀ = omega (arith, done.within, done.size) in
      rw (← here) done.wrote

-- What a loop over the first line has done: i bytes are passed, and the line has them and those that the rest's first line has.
pub record LineTo (text : List ℕ) (i : ℕ) : Type 0 where
  pub within : i ≤ length text
  pub counted : line_length text ≡ i + line_length (drop i text)

module _ {text : List ℕ} {i : ℕ} (done : LineTo text i) where
  pub line_ends : i < length text → get_or text i 0 ≡ 10 → LineEnds text (i + 1)
  unfolding line_length
  line_ends inside newline =
      let here : line_length (drop i text) ≡ 1 = rw (drop-cons text i 0 inside, eq-eqb _ 10 newline) in
      record { counted = omega (arith, done.counted); inside = omega arith; onward = λ some. omega arith }

  pub line_goes_on : i < length text → (get_or text i 0 ≡ 10 → ⊥) → LineTo text (i + 1)
  unfolding line_length
  line_goes_on inside other =
      let on : line_length (drop i text) ≡ suc (line_length (drop (suc i) text)) = rw (drop-cons text i 0 inside, ne_eqb _ 10 other) in
      record { within = omega arith; counted = rw add-one (omega (arith, done.counted)) }

  -- A line that no newline ends is all that is left.
  pub line_is_all : length text ≤ i → LineEnds text i
  unfolding line_length
  line_is_all end =
      let all : i ≡ length text = omega (arith, done.within) in
      let nothing : line_length (drop i text) ≡ 0 = ap (λ n. line_length (drop n text)) all ∙ ap line_length (drop-length text) in
      record { counted = omega (arith, done.counted); inside = omega arith; onward = λ some. omega arith }
