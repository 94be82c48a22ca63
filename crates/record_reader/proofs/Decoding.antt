-- What reading a byte string answers, test by test, each from what is known where the code comes to it.
-- Main results: `answers_short`, `answers_no_term`, `answers_many_terms`, `answers_many_pairs`, `answers_length`, `answers_term`, `answers_goal`, `answers_pair`, `answers_sound`. Assume nothing.
use Rattle.std.specs.Prelude.{Option, Some, None, is_some, Result, Ok, Err}
use mathlib.Core.Path.{◌≡◌, refl, sym}
use mathlib.Core.Bool.{true, false, ◌&&◌}
use mathlib.Core.List.{List}
use mathlib.Core.Option.{Option as Maybe, some, none}
use Prim.Native.Nat.{ℕ, ◌+◌, ◌-◌, ◌*◌, ◌≤◌}
use native.Mathlib.Nat.{zero-add}
use native.Mathlib.Omega.{arith}
use borrow.Author.Tests.{le-leb, eq-eqb}
use lib.Dec.{leb, eqb}
use lib.ListN.{length}
use Rattle.answer.specs.declared.Reason.{Reason}
use Rattle.answer.specs.declared.Refusal.{Refusal}
use Rattle.answer.specs.declared.Reason.TheVariants as reason
use Rattle.fraction.specs.Made.{Made, made, ◌>>=◌, tab}
use Rattle.fraction.proofs.Making.{tab_length, tab_made, tab_stopped}
use Rattle.rules_problem.specs.declared.Kind.{Kind}
use Rattle.rules_problem.specs.declared.Term.{Term}
use Rattle.rules_problem.specs.Bits.{field}
use Rattle.rules_problem.specs.Record.{fields_at, kind_of}
use Rattle.rules_problem.specs.Problem.{Pair, Problem, refuse, term_at, pair_at, need, decoded}
use Rattle.record_reader.specs.declared.Header.{Header}
use Rattle.record_term.specs.Terms.{sound_if, term_read}
use Rattle.record_faults.specs.Contract.{AllSound, Lowest}
use Rattle.record_faults.specs.Faults.{sound_term, sides_below, sound_pair}
use Rattle.record_reader.specs.Contract.{HeaderRead, Framed}
use Rattle.record_reader.specs.Reads.{header_of, read_as, read_of}

-- what follows tests 2 to 4
unfoldable body : List ℕ → (n m : ℕ) → Made Refusal Problem
body bytes n m =
    tab n 0 (term_at bytes) >>= λ terms.
    pair_at bytes n 0 16 >>= λ goal.
    tab m 1 (λ k. pair_at bytes n k (32 + 64 * n + 16 * (k - 1))) >>= λ pairs.
    made (record { terms = terms; goal = goal; pairs = pairs })

-- a refusal, as reading answers it
abbrev pub refused : (why : Reason) (place : ℕ) → Result Header Refusal
refused why place = Err (record { reason = why; place = place })

-- 2 SHORT
pub answers_short : (bytes : List ℕ) → leb 4 (length bytes) ≡ false → refused reason.Short 0 ≡ read_of bytes
unfolding read_of read_as decoded need refuse
answers_short bytes short = sym (rw short)

module _ {bytes : List ℕ} {h : Header} (header : HeaderRead bytes h) (long : leb 4 (length bytes) ≡ true) where
  -- 3 COUNT
  outside_count : (leb 1 h.n && leb h.n 64 && leb h.m 64) ≡ false → refused reason.Count 0 ≡ read_of bytes
  unfolding read_of read_as decoded need refuse
  outside_count outside = sym (rw (← header.terms, ← header.pairs, long, outside))

  pub answers_no_term : leb 1 h.n ≡ false → refused reason.Count 0 ≡ read_of bytes
  answers_no_term few = outside_count (rw few)

  module _ (some_term : leb 1 h.n ≡ true) where
    pub answers_many_terms : leb h.n 64 ≡ false → refused reason.Count 0 ≡ read_of bytes
    answers_many_terms many = outside_count (rw (some_term, many))

    module _ (few_terms : leb h.n 64 ≡ true) where
      pub answers_many_pairs : leb h.m 64 ≡ false → refused reason.Count 0 ≡ read_of bytes
      answers_many_pairs many = outside_count (rw (some_term, few_terms, many))

      module _ (few_pairs : leb h.m 64 ≡ true) where
        -- 4 LENGTH
        pub answers_length : eqb (length bytes) (4 + 8 * h.n + 2 * h.m) ≡ false → refused reason.Length 0 ≡ read_of bytes
        unfolding read_of read_as decoded need refuse
        answers_length differs = sym (rw (← header.terms, ← header.pairs, long, some_term, few_terms, few_pairs, differs))

-- what tests 2 to 4 let pass
framed_body : {bytes : List ℕ} {h : Header} → Framed bytes h → decoded bytes ≡ body bytes h.n h.m
unfolding decoded need body
framed_body {bytes} {h} framed =
    let long : 4 ≤ length bytes = omega (arith, framed.whole) in
    rw (← framed.header.terms, ← framed.header.pairs, le-leb 4 _ long, le-leb 1 _ framed.some_term, le-leb _ 64 framed.few_terms, le-leb _ 64 framed.few_pairs, eq-eqb _ _ framed.whole)

-- what the rule makes of a record, by what reading it answers
unfoldable pub term_as : (t : ℕ) → Option Term → Made Refusal Term
term_as t (Some found) = made found
term_as t None = refuse reason.Term t

pub term_as_lem : (bytes : List ℕ) (t : ℕ) → term_at bytes t ≡ term_as t (term_read bytes t)
unfolding term_read sound_if term_at term_as
term_as_lem bytes t = go (kind_of t (fields_at bytes (32 + 64 * t)))
  where
    go : (o : Maybe Kind) → ◌≡◌ {A = Made Refusal Term} (elim o [ none ↦ refuse reason.Term t | some kind ↦ made (record { kind = kind }) ]) (term_as t (sound_if o))
    go none = refl
    go (some kind) = refl

-- A sound record is made a term; a faulty one stops with its number.
term_made : (bytes : List ℕ) (t : ℕ) → sound_term bytes t ≡ true → (found : Term) × (term_at bytes t ≡ made found)
unfolding sound_term term_as
term_made bytes t e = rw term_as_lem (go (term_read bytes t) e)
  where
    go : (r : Option Term) → is_some r ≡ true → (found : Term) × (term_as t r ≡ made found)
    go (Some found) e = (found, refl)
    go None e = let z : ◌≡◌ {A = ℕ} 0 1 = cc in absurd (omega arith)

term_stopped : (bytes : List ℕ) (t : ℕ) → sound_term bytes t ≡ false → term_at bytes t ≡ refuse reason.Term t
unfolding sound_term term_as
term_stopped bytes t e = rw term_as_lem (go (term_read bytes t) e)
  where
    go : (r : Option Term) → is_some r ≡ false → term_as t r ≡ refuse reason.Term t
    go (Some found) e = let z : ◌≡◌ {A = ℕ} 0 1 = cc in absurd (omega arith)
    go None e = refl

-- A pair with both sides below n is made; another stops with its place.
pair_made : (bytes : List ℕ) (n place p : ℕ) → sides_below bytes n p ≡ true → pair_at bytes n place p ≡ made (record { left = field bytes p 8; right = field bytes (p + 8) 8 })
unfolding sides_below pair_at
pair_made bytes n place p e = rw e

pair_stopped : (bytes : List ℕ) (n place p : ℕ) → sides_below bytes n p ≡ false → pair_at bytes n place p ≡ refuse reason.Pair place
unfolding sides_below pair_at
pair_stopped bytes n place p e = rw e

module _ {bytes : List ℕ} {h : Header} (framed : Framed bytes h) where
  -- 5 TERM
  pub answers_term : {t : ℕ} → Lowest 0 h.n (sound_term bytes) t → refused reason.Term t ≡ read_of bytes
  unfolding read_of read_as body ◌>>=◌ refuse
  answers_term {t} lowest =
      let stops : tab h.n 0 (term_at bytes) ≡ refuse reason.Term t =
      tab_stopped (term_at bytes) h.n 0 t _ lowest.most (λ k before. term_made bytes (0 + k) (lowest.passed.each (0 + k) (omega arith) (omega arith))) (rw zero-add (term_stopped bytes t lowest.there)) in
      sym (rw (framed_body framed, stops))

  module _ (sound : AllSound 0 h.n (sound_term bytes)) where
    terms : (list : List Term) × (tab h.n 0 (term_at bytes) ≡ made list)
    terms = tab_made (term_at bytes) h.n 0 (λ k below. term_made bytes (0 + k) (sound.each (0 + k) (omega arith) (omega arith)))

    -- 6 PAIR, the goal
    pub answers_goal : sides_below bytes h.n 16 ≡ false → refused reason.Pair 0 ≡ read_of bytes
    unfolding read_of read_as body ◌>>=◌ refuse
    answers_goal beyond = sym (rw (framed_body framed, terms.1, pair_stopped bytes h.n 0 16 beyond))

    module _ (goal : sides_below bytes h.n 16 ≡ true) where
      pair : ℕ → Made Refusal Pair
      pair k = pair_at bytes h.n k (32 + 64 * h.n + 16 * (k - 1))

      -- 6 PAIR, a pair
      pub answers_pair : {k : ℕ} → Lowest 1 (h.m + 1) (sound_pair bytes h.n) k → refused reason.Pair k ≡ read_of bytes
      unfolding read_of read_as body ◌>>=◌ refuse pair sound_pair
      answers_pair {k} lowest =
          let index : 1 + (k - 1) ≡ k = omega (arith, lowest.least) in
          let stops : tab h.m 1 pair ≡ refuse reason.Pair k =
          tab_stopped pair h.m 1 (k - 1) _ (omega (arith, lowest.least, lowest.most)) (λ j before. (_, pair_made bytes h.n (1 + j) _ (lowest.passed.each (1 + j) (omega arith) (omega arith)))) (rw index (pair_stopped bytes h.n k _ lowest.there)) in
          sym (rw (framed_body framed, terms.1, pair_made bytes h.n 0 16 goal, stops))

      -- a sound problem
      pub answers_sound : AllSound 1 (h.m + 1) (sound_pair bytes h.n) → Ok h ≡ read_of bytes
      unfolding read_of read_as body ◌>>=◌ pair sound_pair header_of
      answers_sound within =
          let pairs : (list : List Pair) × (tab h.m 1 pair ≡ made list) =
          tab_made pair h.m 1 (λ j below. (_, pair_made bytes h.n (1 + j) _ (within.each (1 + j) (omega arith) (omega arith)))) in
          sym
          (rw (framed_body framed, terms.1, pair_made bytes h.n 0 16 goal, pairs.1)
          (λ i. Ok (record { n = tab_length (term_at bytes) h.n 0 _ terms.1 i; m = tab_length pair h.m 1 _ pairs.1 i; left = sym framed.header.left i; right = sym framed.header.right i })))
