-- The problem that a byte string holds, or the refusal that it gets: tests 2 to 6 in their order.
-- Main definitions: `Problem`, `decoded`. Assumes nothing.
use Rattle.std.specs.Prelude.{Bool, true, false, ◌&&◌, cond, List, ℕ, ◌+◌, ◌-◌, ◌*◌, length, eqb, ltb, leb}
use Rattle.std.proofs.Math.Option.{some, none}
use Rattle.answer.specs.declared.Reason.{Reason}
use Rattle.answer.specs.declared.Refusal.{Refusal}
use Rattle.answer.specs.declared.Reason.TheVariants as reason
use Rattle.fraction.specs.Made.{Made, made, stopped, ◌>>=◌, tab}
use Rattle.rules_problem.specs.declared.Term.{Term}
use Rattle.rules_problem.specs.Bits.{field}
use Rattle.rules_problem.specs.Record.{fields_at, kind_of}

pub record Pair : Type 0 where
  pub left : ℕ
  pub right : ℕ

pub record Problem : Type 0 where
  pub terms : List Term
  pub goal : Pair
  pub pairs : List Pair

unfoldable pub refuse {ℓ} : {A : Type ℓ} → (why : Reason) (place : ℕ) → Made Refusal A
refuse why place = stopped (record { reason = why; place = place })

-- 01, What comes back: "5 TERM | faulty record | lowest such term"; term t's record is 64 bits after the header and t records
unfoldable pub term_at : List ℕ → (t : ℕ) → Made Refusal Term
term_at bytes t = elim (kind_of t (fields_at bytes (32 + 64 * t))) [ none ↦ refuse reason.Term t | some kind ↦ made (record { kind = kind }) ]

-- "6 PAIR | a side is n or more | 0 for the goal, tested first; else the first pair, from 1"; the sides stand at bit p, 8 bits each
unfoldable pub pair_at : List ℕ → (n place p : ℕ) → Made Refusal Pair
pair_at bytes n place p =
    let left = field bytes p 8 in
    let right = field bytes (p + 8) 8 in
    cond (ltb left n && ltb right n) (made (record { left = left; right = right })) (refuse reason.Pair place)

-- a test of the table, at place 0: what follows it, or the refusal
unfoldable pub need {ℓ} : {A : Type ℓ} → Bool → (why : Reason) → Made Refusal A → Made Refusal A
need true why next = next
need false why next = refuse why 0

-- "Header, 4 bytes: term count n (1 to 64), assumption count m (0 to 64), goal left, goal right. Then n term records of 64
-- bits. Then m pairs: left term, right term, 8 bits each. Length is exactly 4 + 8n + 2m"; "Tests run in the order 1 to 7."
unfoldable pub decoded : List ℕ → Made Refusal Problem
decoded bytes =
    let n = field bytes 0 8 in
    let m = field bytes 8 8 in
    need (leb 4 (length bytes)) reason.Short
    (need (leb 1 n && leb n 64 && leb m 64) reason.Count
    (need (eqb (length bytes) (4 + 8 * n + 2 * m)) reason.Length
    (tab n 0 (term_at bytes) >>= λ terms.
    pair_at bytes n 0 16 >>= λ goal.
    tab m 1 (λ k. pair_at bytes n k (32 + 64 * n + 16 * (k - 1))) >>= λ pairs.
    made (record { terms = terms; goal = goal; pairs = pairs }))))
