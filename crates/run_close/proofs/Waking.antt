-- Pairs noted right side by right side.
-- Main results: `grown_itself`, `grown_then`, `right_noted`, `none_noted`, `Waking`, `waking_skips`, `waking_more`, `woken_ends`, `woken_idle`. Assume nothing.
use mathlib.Core.Path.{◌≡◌, refl, sym, ap, ap₂, ◌∙◌}
use mathlib.Core.Bool.{true, false, ◌&&◌, ◌||◌, false≢true, and-false, or-true}
use mathlib.Core.List.{List}
use Prim.Native.Nat.{ℕ, ◌+◌, ◌≤◌, ◌<◌}
use native.Mathlib.Decide.{ℕ_discrete, dec_lt}
use native.Mathlib.Omega.{arith}
use borrow.Author.Tests.{eq-eqb}
use lib.Dec.{eqb}
use lib.ListN.{length, get_or, set, length-set}
use lib.Seq.{get_or-set_same, get_or-set_other}
use Rattle.set_members.specs.Sets.{holds}
use Rattle.set_members.proofs.Digits.{holds_none}
use Rattle.set_extremes.specs.Extremes.{Next}
use Rattle.run_table.specs.Sets.{earlier_of, pending_of, open_of, Waits}
use Rattle.run_close.specs.Woken.{is_woken, Grown, RightWoken, Woken}

pub grown_itself : (waiting : List ℕ) → Grown waiting waiting
grown_itself waiting = record { same_length = refl; keeps = λ i j below waits. waits }

pub grown_then : {first second third : List ℕ} → Grown first second → Grown second third → Grown first third
grown_then one two = record { same_length = two.same_length ∙ one.same_length; keeps = λ i j below waits. two.keeps i j below (one.keeps i j below waits) }

-- The two stores for right side j: its left sides, and that there are any.
module _ (waiting : List ℕ) (j lefts rights woken : ℕ) (place : j < 64) (long : 65 ≤ length waiting)
    (union : (i : ℕ) → holds lefts i ≡ (holds (get_or waiting j 0) i || holds woken i)) (more : (k : ℕ) → holds rights k ≡ (eqb k j || holds (get_or waiting 64 0) k)) where
  abbrev after : List ℕ
  after = set (set waiting j lefts) 64 rights

  at_last : get_or after 64 0 ≡ rights
  at_last = get_or-set_same (set waiting j lefts) 64 rights 0 (omega (arith, length-set waiting j lefts))

  at_right : get_or after j 0 ≡ lefts
  at_right = get_or-set_other (set waiting j lefts) 64 j rights 0 (λ e. omega arith) ∙ get_or-set_same waiting j lefts 0 (omega arith)

  pub right_noted : {sets : List ℕ} → ((i : ℕ) → holds woken i ≡ is_woken sets i j) → RightWoken j sets waiting after
  right_noted told = record {
    grown = record { same_length = length-set (set waiting j lefts) 64 rights ∙ length-set waiting j lefts; keeps = λ i k below waits. record { left = by i k below waits (ℕ_discrete k j); right = ap (λ s. holds s k) at_last ∙ more k ∙ ap (λ b. eqb k j || b) waits.right ∙ or-true (eqb k j) } };
    adds = λ i is. let inside = told i ∙ is in record {
      left = ap (λ s. holds s i) at_right ∙ union i ∙ ap (λ b. holds (get_or waiting j 0) i || b) inside ∙ or-true (holds (get_or waiting j 0) i);
      right = ap (λ s. holds s j) at_last ∙ more j ∙ ap (λ b. b || holds (get_or waiting 64 0) j) (eq-eqb j j refl);
    };
  }
    where
      by : (i k : ℕ) → k < 64 → Waits waiting i k → Dec (k ≡ j) → holds (get_or after k 0) i ≡ true
      by i k below waits (yes here) = ap (λ x. holds (get_or after x 0) i) here ∙ ap (λ s. holds s i) at_right ∙ union i ∙ ap (λ b. b || holds woken i) (ap (λ x. holds (get_or waiting x 0) i) (sym here) ∙ waits.left)
      by i k below waits (no other) = ap (λ s. holds s i) (get_or-set_other (set waiting j lefts) 64 k rights 0 (λ e. omega arith) ∙ get_or-set_other waiting j k lefts 0 other) ∙ waits.left

-- Where none is to be compared, nothing is stored.
pub none_noted : {j woken : ℕ} {sets waiting : List ℕ} → woken ≡ 0 → ((i : ℕ) → holds woken i ≡ is_woken sets i j) → RightWoken j sets waiting waiting
none_noted {woken = woken} {waiting = waiting} nothing told =
    record { grown = grown_itself waiting; adds = λ i is. absurd (false≢true (sym (holds_none i) ∙ ap (λ s. holds s i) (sym nothing) ∙ told i ∙ is)) }

-- The open right sides below j are noted.
pub record Waking (sets waiting₀ : List ℕ) (j : ℕ) (waiting : List ℕ) : Type 0 where
  pub grown : Grown waiting₀ waiting
  pub adds : (i k : ℕ) → i < k → k < j → k < 64 → holds (open_of sets) k ≡ true → is_woken sets i k ≡ true → Waits waiting i k

-- Right sides that are not open need no turn.
pub waking_skips : {sets waiting₀ waiting : List ℕ} {from on : ℕ} → Next (open_of sets) from on → Waking sets waiting₀ from waiting → Waking sets waiting₀ on waiting
waking_skips {sets} {waiting₀} {waiting} {from} {on} next waking = record { grown = waking.grown; adds = λ i k before low small inside. by i k before low small inside (dec_lt k from) }
  where
    by : (i k : ℕ) → i < k → k < on → k < 64 → holds (open_of sets) k ≡ true → Dec (k < from) → is_woken sets i k ≡ true → Waits waiting i k
    by i k before low small inside (yes passed) = waking.adds i k before passed small inside
    by i k before low small inside (no after) = absurd (false≢true (sym (next.none_between k (omega arith) low) ∙ inside))

pub waking_more : {sets waiting₀ waiting waiting' : List ℕ} (j : ℕ) → RightWoken j sets waiting waiting' → Waking sets waiting₀ j waiting → Waking sets waiting₀ (j + 1) waiting'
waking_more {sets} {waiting₀} {waiting} {waiting'} j here waking =
    record { grown = grown_then waking.grown here.grown; adds = λ i k before low small inside. by i k before low small inside (ℕ_discrete k j) }
  where
    by : (i k : ℕ) → i < k → k < j + 1 → k < 64 → holds (open_of sets) k ≡ true → Dec (k ≡ j) → is_woken sets i k ≡ true → Waits waiting' i k
    by i k before low small inside (yes now) is = rw now (here.adds i (ap (is_woken sets i) (sym now) ∙ is))
    by i k before low small inside (no other) is = here.grown.keeps i k small (waking.adds i k before (omega arith) small inside is)

-- All are noted, and none is pending any more.
pub woken_ends : {sets waiting₀ waiting : List ℕ} (n : ℕ) {end : ℕ} → n ≤ end → n ≤ 64 → 192 < length sets → Waking sets waiting₀ end waiting → Woken n sets (set sets 192 0) waiting₀ waiting
unfolding pending_of
woken_ends {sets} n all few place waking =
    record {
      same_length = length-set sets 192 0;
      asleep = get_or-set_same sets 192 0 0 place;
      others = λ k apart. get_or-set_other sets 192 k 0 0 apart;
      grown = waking.grown;
      adds = λ i j before low. waking.adds i j before (omega arith) (omega arith);
    }

-- None was pending.
pub woken_idle : (n : ℕ) {sets : List ℕ} (waiting : List ℕ) → pending_of sets ≡ 0 → Woken n sets sets waiting waiting
woken_idle n {sets} waiting asleep =
    record { same_length = refl; asleep = asleep; others = λ k apart. refl; grown = grown_itself waiting; adds = λ i j before low inside is. absurd (false≢true (sym (never i j) ∙ is)) }
  where
    none : (k : ℕ) → holds (pending_of sets) k ≡ false
    none k = ap (λ s. holds s k) asleep ∙ holds_none k

    never : (i j : ℕ) → is_woken sets i j ≡ false
    never i j = ap₂ (λ a b. (holds (earlier_of sets j) i && holds (open_of sets) i) && (a || b)) (none i) (none j) ∙ and-false (holds (earlier_of sets j) i && holds (open_of sets) i)
