-- The assumptions in file order, one after another.
-- Main results: `assuming_starts`, `sides_below_lem`, `assuming_ends`, `assuming_turned`. Assume nothing.
use Rattle.std.specs.Prelude.{Err, Ok, Result}
use Rattle.std.proofs.lemmas.Result.{IfOk-at_ok}
use mathlib.Core.Path.{◌≡◌, refl, sym, ap, ap₂, ◌∙◌}
use mathlib.Core.List.{List, [], ◌∷◌}
use Prim.Native.Nat.{ℕ, suc, ◌+◌, ◌-◌, ◌*◌, ◌<◌, ◌≤◌}
use native.Mathlib.Omega.{arith}
use lib.ListN.{get_or, drop, drop_of_length-le}
use lib.Seq.{drop-cons}
use Rattle.answer.specs.declared.Answer.{Answer}
use Rattle.fraction.specs.Made.{made, ◌>>=◌}
use Rattle.rules_problem.specs.Bits.{field}
use Rattle.rules_problem.specs.Problem.{Problem, decoded}
use Rattle.record_items.specs.declared.Sides.{Sides}
use Rattle.rules_problem.specs.Pairs.{pair_there}
use Rattle.record_items.specs.Held.{as_pair}
use Rattle.rules_problem.proofs.Holding.{sides_made, pairs_count, pair_there_lem}
use Rattle.rules_run.specs.Run.{by_number, assume}
use Rattle.run_table.specs.Work.{Work, table_of, Resting}
use Rattle.run_table.proofs.Columns.{kept_itself, kept_then}
use Rattle.run_merge.specs.Contract.{state_of}
use Rattle.run_progress.specs.Ran.{ran}
use Rattle.run_assume.specs.Assumed.{assumed}
use Rattle.run_assume.specs.Contract.{EACH, Stays, Assumes, AllAssumable, AssumesAll}

-- The sides of a pair are numbers of terms.
pub sides_below_lem : (bytes : List ℕ) (n k : ℕ) (sides : Sides) → made (as_pair sides) ≡ pair_there bytes n k → (sides.left < n) × (sides.right < n)
unfolding pair_there as_pair
sides_below_lem bytes n k sides there =
    let both = sides_made bytes n k _ (as_pair sides) (sym there) in
    (both.left_below, both.right_below)

-- In the loop, before assumption k: what is left to assume gives what all of them give; only the rows of the terms have changed;
-- each assumption solved at most `EACH` unknowns.
pub record Assuming (bytes : List ℕ) (n m solved : ℕ) (heads inputs : List ℕ) (old : Work) (count k : ℕ) (w : Work) : Type 0 where
  pub rest : (problem : Problem) → decoded bytes ≡ made problem
      → assume by_number problem.terms 1 problem.pairs (state_of n old solved) ≡ assume by_number problem.terms k (drop (k - 1) problem.pairs) (state_of n w count)
  pub stays : Stays n old w
  pub least : 1 ≤ k
  pub most : k ≤ m + 1
  pub counted : count < EACH * k
  pub resting : Resting n heads inputs w

-- What assumption k leaves, by its answer: the loop goes on to the next or is over.
pub record AssumedOne (bytes : List ℕ) (n m solved : ℕ) (heads inputs : List ℕ) (old : Work) (next : ℕ) (w : Work) (answer : Result ℕ Answer) : Type 0 where
  pub on : (more : ℕ) → answer ≡ Ok more → Assuming bytes n m solved heads inputs old more next w
  pub stops : (end : Answer) → answer ≡ Err end → AssumesAll bytes n solved (Err end) old w

stays_then : {n : ℕ} {old mid new : Work} → Stays n old mid → Stays n mid new → Stays n old new
stays_then first second = record { kept = kept_then first.kept second.kept; sound = second.sound; size = second.size ∙ first.size }

module _ {bytes : List ℕ} {n m solved : ℕ} {heads inputs : List ℕ} {old : Work} (ready : AllAssumable bytes n m solved heads inputs old) where
  pub assuming_starts : Assuming bytes n m solved heads inputs old solved 1 old
  assuming_starts =
      let resting = ready.prepared.resting in
      record {
        rest = λ problem held. refl;
        stays = record { kept = kept_itself _ _ old.nums old.dens; sound = resting.rows.sound; size = refl };
        least = omega arith;
        most = omega arith;
        counted = omega (arith, ready.few_solved);
        resting = resting;
      }

  module _ {count k : ℕ} {w : Work} (assuming : Assuming bytes n m solved heads inputs old count k w) where
    -- None is left.
    pub assuming_ends : m < k → AssumesAll bytes n solved (Ok count) old w
    unfolding assume ran
    assuming_ends over =
        record {
          answers = λ problem held.
              let none_left : drop (k - 1) problem.pairs ≡ [] = drop_of_length-le problem.pairs {i = k - 1} (omega (arith, ready.pairs, pairs_count bytes problem held)) in
              assuming.rest problem held ∙ ap (λ ps. assume by_number problem.terms k ps (state_of n w count)) none_left;
          stays = assuming.stays;
          sparse = assuming.resting.rows.sparse;
        }

    module _ (some_left : k ≤ m) (sides : Sides) (there : made (as_pair sides) ≡ pair_there bytes n k) where
      -- pair k is the first of those that are left
      first : (problem : Problem) → decoded bytes ≡ made problem → drop (k - 1) problem.pairs ≡ as_pair sides ∷ drop k problem.pairs
      first problem held =
          let below : k - 1 < field bytes 8 8 = omega (arith, ready.pairs, assuming.least) in
          let index : suc (k - 1) ≡ k = omega (arith, assuming.least) in
          let number : 1 + (k - 1) ≡ k = omega (arith, assuming.least) in
          let found : pair_there bytes n k ≡ made (get_or problem.pairs (k - 1) (as_pair sides)) = rw (number, ← ready.prepared.terms) at (pair_there_lem bytes problem held (k - 1) below (as_pair sides)) in
          let same : get_or problem.pairs (k - 1) (as_pair sides) ≡ as_pair sides = cc in
          drop-cons problem.pairs (k - 1) (as_pair sides) (omega (arith, pairs_count bytes problem held))
          ∙ ap₂ (λ p j. p ∷ drop j problem.pairs) same index

      module _ {answer : Result ℕ Answer} {new : Work} (assumes : Assumes n k sides.left sides.right count heads inputs answer w new) where
        step : (to : Result ℕ Answer) → answer ≡ to → (problem : Problem) → decoded bytes ≡ made problem → assume by_number problem.terms 1 problem.pairs (state_of n old solved) ≡ ran to (table_of n new) >>= assume by_number problem.terms (suc k) (drop k problem.pairs)
        unfolding assume assumed as_pair
        step to is problem held =
            assuming.rest problem held
            ∙ ap (λ ps. assume by_number problem.terms k ps (state_of n w count)) (first problem held)
            ∙ ap (λ m. m >>= assume by_number problem.terms (suc k) (drop k problem.pairs))
            (assumes.answers problem.terms (ready.prepared.lookups problem held) ∙ ap (λ r. ran r (table_of n new)) is)

        -- Assumption k is assumed.
        pub assuming_turned : AssumedOne bytes n m solved heads inputs old (k + 1) new answer
        unfolding ran ◌>>=◌
        assuming_turned =
            record {
              on = λ more is.
                  let next : suc k ≡ k + 1 = omega arith in
                  let left : k ≡ k + 1 - 1 = omega arith in
                  let few : more ≤ count + EACH = IfOk-at_ok (λ x. x ≤ count + EACH) is assumes.counted in
                  record {
                    rest = λ problem held.
                        step (Ok more) is problem held
                        ∙ ap₂ (λ j l. assume by_number problem.terms j (drop l problem.pairs) (state_of n new more)) next left;
                    stays = stays_then assuming.stays assumes.stays;
                    least = omega arith;
                    most = omega arith;
                    counted = omega (arith, assuming.counted);
                    resting = IfOk-at_ok (λ x. Resting n heads inputs new) is assumes.resting;
                  };
              stops = λ end is. record { answers = step (Err end) is; stays = stays_then assuming.stays assumes.stays; sparse = tt };
            }
