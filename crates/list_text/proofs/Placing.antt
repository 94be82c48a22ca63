-- Texts put into a buffer one after the other.
-- Main results: `take_put_at`, `put_at_then`, `wrote_nothing`, `wrote_byte`, `wrote_then`, `wrote_length`, `fits_then`, `wrote_both`. Assume nothing.
use mathlib.Core.Path.{◌≡◌, refl, sym, ap, ◌∙◌}
use mathlib.Core.List.{List, [], ◌∷◌, ◌++◌, append-nil, append_assoc}
use Prim.Native.Nat.{ℕ, suc, ◌+◌, ◌≤◌, ◌<◌}
use native.Mathlib.Nat.{add-zero, add_assoc}
use native.Mathlib.Numerals.{add-one}
use native.Mathlib.Omega.{arith}
use lib.ListN.{length, take, drop, set, take-append-drop, length-append, length-drop}
use lib.Seq.{length-take-le, take_at, drop_at, drop-drop, set_split, append_snoc}
use Rattle.rules_listing.specs.Listing.{put_at}
use Rattle.list_text.specs.Wrote.{Fits, Wrote}

module _ (place : ℕ) (text buffer : List ℕ) (within : place ≤ length buffer) where
  -- what stands before the place, and the text
  head_length : length (take place buffer ++ text) ≡ place + length text
  head_length = length-append (take place buffer) text ∙ ap (λ n. n + length text) (length-take-le place buffer within)

  -- Up to its end stand what stood before the place, and the text.
  pub take_put_at : take (place + length text) (put_at place text buffer) ≡ take place buffer ++ text
  unfolding put_at
  take_put_at = take_at (take place buffer ++ text) _ _ head_length

  drop_put_at : (more : ℕ) → drop (place + length text + more) (put_at place text buffer) ≡ drop (place + length text + more) buffer
  unfolding put_at
  drop_put_at more =
      sym (drop-drop more (place + length text) (put_at place text buffer))
      ∙ ap (drop more) (drop_at (take place buffer ++ text) (drop (place + length text) buffer) (place + length text) head_length)
      ∙ drop-drop more (place + length text) buffer

-- Two texts put one behind the other are one text.
pub put_at_then : (place : ℕ) (a b buffer : List ℕ) → place ≤ length buffer → put_at (place + length a) b (put_at place a buffer) ≡ put_at place (a ++ b) buffer
unfolding put_at
put_at_then place a b buffer within =
    ap (λ head. head ++ b ++ drop (place + length a + length b) (put_at place a buffer)) (take_put_at place a buffer within)
    ∙ ap (λ tail. take place buffer ++ a ++ b ++ tail) (drop_put_at place a buffer within (length b))
    ∙ ap (λ head. head ++ drop (place + length a + length b) buffer) (append_assoc (take place buffer) a b)
    ∙ ap (λ n. take place buffer ++ (a ++ b) ++ drop n buffer) (add_assoc place (length a) (length b) ∙ ap (λ n. place + n) (sym (length-append a b)))

-- A text of no bytes changes nothing.
pub wrote_nothing : (place : ℕ) (buffer : List ℕ) → Wrote [] place buffer buffer place
unfolding put_at
wrote_nothing place buffer =
    record {
      placed = sym (rw (add-zero, append-nil) (take-append-drop place buffer));
      reached = sym (add-zero place);
    }

-- A byte stored is a text of one byte put there.
pub wrote_byte : (place b : ℕ) (buffer : List ℕ) → place < length buffer → Wrote (b ∷ []) place buffer (set buffer place b) (place + 1)
unfolding put_at
wrote_byte place b buffer within =
    record {
      placed = set_split buffer place b within ∙ sym (rw add-one (append_snoc (take place buffer) b (drop (suc place) buffer)));
      reached = refl;
    }

-- What is written behind what was written is written with it.
pub wrote_then : {a b before between after : List ℕ} {place middle next : ℕ} → place ≤ length before → Wrote a place before between middle → Wrote b middle between after next → Wrote (a ++ b) place before after next
wrote_then {a} {b} {before} {place = place} within first second =
    record {
      placed = second.placed ∙ rw (first.reached, first.placed) (put_at_then place a b before within);
      reached = second.reached ∙ rw (first.reached, length-append a b) (add_assoc place (length a) (length b));
    }

-- A text for which there is room leaves the buffer as long as it was.
pub wrote_length : {text before after : List ℕ} {place next : ℕ} → Fits text place before → Wrote text place before after next → length after ≡ length before
unfolding put_at
wrote_length {text} {before} {place = place} fits wrote =
    ap length wrote.placed
    ∙ omega (
      arith,
      fits.room,
      length-append (take place before ++ text) (drop (place + length text) before),
      length-append (take place before) text,
      length-take-le place before (omega (arith, fits.room)),
      length-drop (place + length text) before,
    )

-- Where there is room for two texts there is room for the first,
pub fits_first : (a b : List ℕ) {buffer : List ℕ} {place : ℕ} → Fits (a ++ b) place buffer → Fits a place buffer
fits_first a b fits = record { room = omega (arith, fits.room, length-append a b) }

-- and behind it for the second.
pub fits_then : {a b before between : List ℕ} {place middle : ℕ} → Fits (a ++ b) place before → Wrote a place before between middle → Fits b middle between
fits_then {a} {b} fits wrote =
    record { room = omega (arith, fits.room, length-append a b, wrote_length (fits_first a b fits) wrote, wrote.reached) }

-- A text of which both parts are written is written.
pub wrote_both : {a b before between after : List ℕ} {place middle next : ℕ} → Fits (a ++ b) place before → Wrote a place before between middle → Wrote b middle between after next → Wrote (a ++ b) place before after next
wrote_both fits = wrote_then (omega (arith, fits.room))
