-- What reading a record answers, by the kind that its fields say and whether that kind is sound.
-- Main results: `other_kinds`, `read_none`, `read_sound`, `read_unsound`, `held_some`, `held_is`. Assume nothing.
use Rattle.std.specs.Prelude.{◌≡◌, Bool, true, false, List, ℕ, ◌+◌, ◌*◌, ◌-◌, ◌≤◌, ◌<◌, Option, Some, None, IsSome}
use Rattle.std.proofs.Common.{arith, refl, sym, ap, ◌∙◌}
use Rattle.std.proofs.Math.Option.{none}
use Prim.Native.Nat.{suc}
use native.Mathlib.Nat.{le_of_suc-le-suc}
use native.Mathlib.Decide.{dec_lt}
use lib.Arith.{le-zero, le_of_le-suc-ne}
use Rattle.rules_problem.specs.declared.Kind.{Kind}
use Rattle.rules_problem.specs.Record.{Fields, fields_at, kind_of}
use Rattle.record_fields.specs.Contract.{fields_of, FieldsRead}
use Rattle.record_fields.specs.declared.Fields as held
use Rattle.record_term.specs.Terms.{sound_if, term_read, Faultless}
use Rattle.record_term.specs.Uses.{sound_kind, judged}

past_table : (own : ℕ) (f : Fields) → ¬ (f.kind < 9) → kind_of own f ≡ none
unfolding kind_of
past_table own f h =
    let past : f.kind ≡ suc (suc (suc (suc (suc (suc (suc (suc (suc (f.kind - 9))))))))) = omega arith in
    rw past

-- A record of kind 0, or of a kind above 8, holds no term.
pub other_kinds : (own : ℕ) (f : Fields) → (f.kind ≡ 1 → ⊥) → (f.kind ≡ 2 → ⊥) → (f.kind ≡ 3 → ⊥) → (f.kind ≡ 4 → ⊥) → (f.kind ≡ 5 → ⊥) → (f.kind ≡ 6 → ⊥) → (f.kind ≡ 7 → ⊥) → (f.kind ≡ 8 → ⊥) → kind_of own f ≡ none
unfolding kind_of
other_kinds own f n1 n2 n3 n4 n5 n6 n7 n8 = go (dec_lt f.kind 9)
  where
    go : Dec (f.kind < 9) → kind_of own f ≡ none
    go (yes h) =
        let k7 : f.kind ≤ 7 = le_of_le-suc-ne {n = 7} (le_of_suc-le-suc h) n8 in
        let k6 : f.kind ≤ 6 = le_of_le-suc-ne {n = 6} k7 n7 in
        let k5 : f.kind ≤ 5 = le_of_le-suc-ne {n = 5} k6 n6 in
        let k4 : f.kind ≤ 4 = le_of_le-suc-ne {n = 4} k5 n5 in
        let k3 : f.kind ≤ 3 = le_of_le-suc-ne {n = 3} k4 n4 in
        let k2 : f.kind ≤ 2 = le_of_le-suc-ne {n = 2} k3 n3 in
        let k1 : f.kind ≤ 1 = le_of_le-suc-ne {n = 1} k2 n2 in
        rw (le-zero (le_of_le-suc-ne {n = 0} k1 n1))
    go (no h) = past_table own f h

module _ {bytes : List ℕ} (own : ℕ) {f : held.Fields} (read : FieldsRead bytes (4 + 8 * own) f) where
  answer_is : (kind : Option Kind) → ((n : ℕ) → kind_of n (fields_of f) ≡ judged n (fields_of f) kind) → term_read bytes own ≡ sound_if (judged own (fields_of f) kind)
  unfolding term_read
  answer_is kind rule =
      let bits : 8 * (4 + 8 * own) ≡ 32 + 64 * own = omega arith in
      ap (λ g. sound_if (kind_of own g)) (sym (read.same ∙ ap (fields_at bytes) bits)) ∙ ap sound_if (rule own)

  pub read_none : ((n : ℕ) → kind_of n (fields_of f) ≡ judged n (fields_of f) None) → None ≡ term_read bytes own
  unfolding judged sound_if
  read_none rule = sym (answer_is None rule)

  module _ (kind : Kind) (rule : (n : ℕ) → kind_of n (fields_of f) ≡ judged n (fields_of f) (Some kind)) where
    pub read_sound : true ≡ sound_kind own (fields_of f) kind → Some (record { kind = kind }) ≡ term_read bytes own
    unfolding judged sound_if
    read_sound sound = sym (answer_is (Some kind) rule ∙ rw (← sound))

    pub read_unsound : false ≡ sound_kind own (fields_of f) kind → None ≡ term_read bytes own
    unfolding judged sound_if
    read_unsound unsound = sym (answer_is (Some kind) rule ∙ rw (← unsound))

    -- A record that is not faulty holds the term of its kind.
    pub held_is : Faultless (term_read bytes own) → term_read bytes own ≡ Some (record { kind = kind })
    unfolding Faultless
    held_is faultless = by (sound_kind own (fields_of f) kind) refl
      where
        by : (b : Bool) → sound_kind own (fields_of f) kind ≡ b → term_read bytes own ≡ Some (record { kind = kind })
        by true sound = sym (read_sound (sym sound))
        by false unsound = absurd (faultless (sym (read_unsound (sym unsound))))

  pub held_some : (kind : Option Kind) → ((n : ℕ) → kind_of n (fields_of f) ≡ judged n (fields_of f) kind) → Faultless (term_read bytes own) → IsSome kind
  unfolding Faultless
  held_some None rule faultless = absurd (faultless (sym (read_none rule)))
  held_some (Some kind) rule faultless = refl
