-- What is known where a byte string holds a term or a pair.
-- Main results: `record_held`, `term_answered`, `pair_within`, `pair_held`. Assume nothing.
use Rattle.std.specs.Prelude.{Some}
use mathlib.Core.Path.{◌≡◌, sym, ap, ◌∙◌}
use mathlib.Core.List.{List}
use Prim.Native.Nat.{ℕ, ◌+◌, ◌-◌, ◌*◌, ◌≤◌}
use native.Mathlib.Omega.{arith}
use lib.ListN.{length}
use Rattle.fraction.proofs.Making.{stopped_not_made}
use Rattle.fraction.specs.Made.{made}
use Rattle.rules_problem.specs.declared.Kind.TheVariants.{Variable}
use Rattle.rules_problem.specs.declared.Term.{Term}
use Rattle.rules_problem.specs.Bits.{field}
use Rattle.rules_problem.specs.Problem.{refuse, term_at}
use Rattle.rules_problem.specs.Pairs.{pair_there}
use Rattle.rules_problem.proofs.Holding.{holding, sides_made, term_there, pair_there_lem}
use Rattle.record_term.specs.Contract.{SoundRecord}
use Rattle.record_term.specs.Terms.{term_read, Faultless}
use Rattle.record_reader.proofs.Decoding.{term_as, term_as_lem}
use Rattle.record_items.specs.Held.{TermHeld, PairHeld}

module _ {bytes : List ℕ} {t : ℕ} (h : TermHeld bytes t) where
  -- A term that is held has its record within the bytes, and the record is not faulty:
  pub record_held : SoundRecord bytes t
  unfolding refuse term_as Faultless
  record_held =
      let parts = holding bytes h.held.problem h.held.same in
      record {
        of = record { below = omega (arith, parts, h.below); there = omega (arith, parts, h.below) };
        faultless = λ e. stopped_not_made (sym (term_as_lem bytes t ∙ ap (term_as t) e) ∙ term_there bytes h.held.problem h.held.same t h.below (record { kind = Variable 0 }));
      }

-- what reading it answers is the rule's term.
pub term_answered : (bytes : List ℕ) (t : ℕ) {r : Term} → term_read bytes t ≡ Some r → made r ≡ term_at bytes t
unfolding term_as
term_answered bytes t e = sym (term_as_lem bytes t ∙ ap (term_as t) e)

module _ {bytes : List ℕ} {n k : ℕ} (h : PairHeld bytes n k) where
  -- A pair that is held has its sides within the bytes, and is made of them.
  pub pair_within : (n ≤ 64) × (1 ≤ k) × (k ≤ 64) × (4 + 8 * n + 2 * k ≤ length bytes)
  pair_within =
      let parts = holding bytes h.held.problem h.held.same in
      omega (arith, parts, h)

  pub pair_held : pair_there bytes n k ≡ made (record { left = field bytes (32 + 64 * n + 16 * (k - 1)) 8; right = field bytes (32 + 64 * n + 16 * (k - 1) + 8) 8 })
  unfolding pair_there
  pair_held =
      let index : 1 + (k - 1) ≡ k = omega (arith, h.least) in
      let there = rw (index, ← h.terms) at (pair_there_lem bytes h.held.problem h.held.same (k - 1) (omega (arith, h.least, h.most)) (record { left = 0; right = 0 })) in
      let sides = sides_made bytes n k _ _ there in
      there ∙ (λ i. made (record { left = sides.left i; right = sides.right i }))
