-- The table grows by one row a term: what remains to be built gives the same.
-- Main definition: `Rising`. Main results: `few_terms`, `rising_starts`, `rising_reads`, `rising_notes`, `rising_links`, `rising_rows`,
-- `rising_goes_on`, `rising_stops`, `rising_ends`. Assume nothing.
use Rattle.std.specs.Prelude.{Err, Ok}
use mathlib.Core.Path.{◌≡◌, refl, sym, ap, ◌∙◌, subst}
use mathlib.Core.List.{List, [], ◌∷◌, ◌++◌}
use Prim.Native.Nat.{ℕ, zero, suc, ◌+◌, ◌*◌, ◌≤◌, ◌<◌}
use native.Mathlib.Numerals.{add-one}
use native.Mathlib.Nat.{add-zero, add-suc, suc-add, zero-add}
use native.Mathlib.Omega.{arith}
use lib.ListN.{length, drop, get_or, set, length-set}
use lib.Seq.{drop-cons, drop-length, get_or-set_same, get_or-set_other}
use lib.IntN.{ℤ}
use Rattle.set_members.specs.Sets.{holds}
use Rattle.set_members.proofs.Digits.{holds_all}
use Rattle.answer.specs.declared.Reason.{Reason}
use Rattle.fraction.specs.Made.{Made, made, stopped, ◌>>=◌}
use Rattle.rules_problem.specs.declared.Kind.TheVariants.{Variable}
use Rattle.rules_problem.specs.declared.Term.{Term}
use Rattle.rules_problem.specs.Lookup.{kind_at}
use Rattle.rules_problem.specs.Problem.{Problem, term_at, decoded}
use Rattle.rules_problem.proofs.Holding.{holding, terms_count}
use Rattle.record_items.specs.Held.{TermHeld}
use Rattle.rules_run.specs.Row.{COLUMNS, TERMS, Row, Table, row}
use Rattle.rules_run.specs.Build.{built_column, built}
use Rattle.run_table.specs.Step.{Step}
use Rattle.run_table.specs.Notes.{LookupsNoted, NotesKept}
use Rattle.run_table.specs.Held.{listed_from, row_at, table_at, stepped}
use Rattle.run_table.specs.Loop.{Kept}
use Rattle.run_table.specs.Sets.{PENDING, OPEN, Linked, pending_of}
use Rattle.run_table.specs.Work.{table_of, Rows}
use Rattle.run_table.proofs.Columns.{table_length, kept_itself, kept_within, kept_then}
use Rattle.run_table.proofs.Linked.{linked_same}
use Rattle.run_table.proofs.Turns.{stepped_done, stepped_refused, refused_not_done}
use Rattle.run_build_row.specs.Buildable.{Buildable}
use Rattle.run_build_row.specs.Contract.{TermBuildable, TermBuilt}
use Rattle.run_build_row.proofs.Building.{table_kept}
use Rattle.run_build.specs.Contract.{Notable, CallNoted, Linkable, LinksNoted, Beginnable, Builds}
use Rattle.run_build.specs.Links.{InputsSmall, Opened}
use Rattle.run_build.specs.Store.{Store}
use Rattle.run_build.proofs.Decoded.{term_buildable, kind_there}
use Rattle.run_build.proofs.Linking.{sparse_same, opened_same}
use Rattle.run_build.proofs.Noted.{heads_length, inputs_length, calls_noted, notes_more, inputs_noted, linked_noted, opened_noted}

-- the set of all lookups, as the code has it
abbrev ALL : ℕ
ALL = 18446744073709551615

-- One more member stands at the end of a list.
listed_more {ℓ} : {A : Type ℓ} (g : ℕ → A) (count from : ℕ) → listed_from (suc count) from g ≡ listed_from count from g ++ (g (from + count) ∷ [])
unfolding listed_from
listed_more g zero from = rw add-zero
listed_more g (suc count) from = rw (add-suc, ← suc-add) (ap (◌∷◌ (g from)) (listed_more g count (suc from)))

table_more : (t : ℕ) (nums dens : List ℤ) → table_at (t + 1) nums dens ≡ table_at t nums dens ++ (row_at nums dens (COLUMNS * t) ∷ [])
unfolding table_at
table_more t nums dens = rw (add-one, listed_more (λ s. row_at nums dens (COLUMNS * s)) t 0, zero-add)

-- The next term is built behind the table.
built_next : (terms : List Term) (t : ℕ) (table : Table) → t < length terms → length table ≡ t → built (drop t terms) table ≡ row (built_column table t (kind_at terms t)) >>= λ r. built (drop (t + 1) terms) (table ++ (r ∷ []))
unfolding built kind_at
built_next terms t table below sized = rw (drop-cons terms t (record { kind = Variable 0 }), sized, add-one)

-- In the loop over the terms: the rows below t are built, and their lookups noted, linked and open; what remains to be built gives the same.
pub record Rising (bytes : List ℕ) (n t : ℕ) (old new : Store) : Type 0 where
  pub reached : t ≤ n
  pub remains : (p : Problem) → decoded bytes ≡ made p → built p.terms [] ≡ built (drop t p.terms) (table_of t new.work)
  pub rows : Rows t new.work
  pub kept : Kept 0 (COLUMNS * t) old.work.nums old.work.dens new.work.nums new.work.dens
  pub calls : (p : Problem) → decoded bytes ≡ made p → LookupsNoted p.terms t new.heads new.inputs
  pub notes : NotesKept t old.heads old.inputs new.heads new.inputs
  pub small : InputsSmall t new.inputs
  pub linked : Linked t new.heads new.inputs new.work.sets
  pub opened : Opened t new.heads new.work.sets

-- the five lists
abbrev store : (nums dens : List ℤ) (sets heads inputs : List ℕ) → Store
store nums dens sets heads inputs = record { work = record { nums = nums; dens = dens; sets = sets }; heads = heads; inputs = inputs }

module _ {bytes : List ℕ} {n : ℕ} {old : Store} (asked : Beginnable bytes n old) where
  -- 01, The problem record: "term count n (1 to 64)".
  pub few_terms : n ≤ TERMS
  few_terms = let held = asked.held in omega (arith, holding bytes held.problem held.same, asked.terms)

  -- the problem has n terms
  count : (p : Problem) → decoded bytes ≡ made p → n ≡ length p.terms
  count p held = asked.terms ∙ sym (terms_count bytes p held)

  pub rising_starts : Rising bytes n 0 old old
  unfolding table_at listed_from
  rising_starts =
      record {
        reached = omega arith;
        remains = λ p held. refl;
        rows = record { few = omega arith; nums_fit = asked.nums_fit; dens_fit = asked.dens_fit; sound = record { good = λ k below. absurd (omega arith) }; size = asked.sets_size; sparse = record { within = λ t below. absurd (omega arith) } };
        kept = kept_itself 0 (COLUMNS * 0) old.work.nums old.work.dens;
        calls = λ p held. record { head = λ t below. absurd (omega arith); input = λ t i below place. absurd (omega arith) };
        notes = record { heads_length = refl; inputs_length = refl; heads_beyond = λ k far. refl; inputs_beyond = λ k far. refl };
        small = record { small = λ k below. absurd (omega arith) };
        linked = record { users = λ j k below place lookup. absurd (omega arith); earlier = λ i j before below lookup same. absurd (omega arith) };
        opened = record { inside = λ j below lookup. absurd (omega arith) };
      }

  module _ {t : ℕ} {nums dens : List ℤ} {sets heads inputs : List ℕ} (rising : Rising bytes n t old (store nums dens sets heads inputs)) where
    -- One turn: term t is read,
    module _ (more : t < n) where
      pub rising_reads : TermHeld bytes t
      rising_reads = record { held = asked.held; below = omega (arith, asked.terms) }

      module _ {term : Term} (read : made term ≡ term_at bytes t) where
        buildable : Buildable t term.kind
        buildable = term_buildable bytes t term (sym read)

        kind_is : (p : Problem) → decoded bytes ≡ made p → kind_at p.terms t ≡ term.kind
        kind_is p held = kind_there bytes p held t rising_reads.below read

        -- its lookup is noted,
        pub rising_notes : Notable term.kind t heads inputs
        rising_notes =
            record {
              few = omega (arith, few_terms);
              heads_size = rising.notes.heads_length ∙ asked.heads_size;
              inputs_size = rising.notes.inputs_length ∙ asked.inputs_size;
              below = buildable.inputs;
            }

        module _ {heads' inputs' : List ℕ} (noted : CallNoted term.kind t heads inputs heads' inputs') where
          -- and linked,
          pub rising_links : Linkable t heads' inputs' sets
          rising_links =
              record {
                few = rising_notes.few;
                heads_size = heads_length rising_notes noted ∙ rising_notes.heads_size;
                inputs_size = inputs_length rising_notes noted ∙ rising_notes.inputs_size;
                size = rising.rows.size;
                small = inputs_noted rising_notes noted rising.small;
                linked = linked_noted rising_notes noted rising.small rising.linked;
                opened = opened_noted rising_notes noted rising.opened;
              }

          module _ {sets' : List ℕ} (links : LinksNoted t heads' inputs' sets sets') where
            -- and its row is built
            pub rising_rows : TermBuildable term.kind t (record { nums = nums; dens = dens; sets = sets' })
            rising_rows =
                let rows = rising.rows in
                let few = rising_notes.few in
                record {
                  few = few;
                  rows = record { few = rows.few; nums_fit = rows.nums_fit; dens_fit = rows.dens_fit; sound = rows.sound; size = links.size ∙ rows.size; sparse = sparse_same (λ k below. links.columns k (omega arith)) rows.sparse };
                  term = buildable;
                }

            module _ {step : Step} {nums' dens' : List ℤ} {sets'' : List ℕ} (row-built : TermBuilt term.kind t step (record { nums = nums; dens = dens; sets = sets' }) (record { nums = nums'; dens = dens'; sets = sets'' })) where
              -- what remains, by what the rule makes of the next row
              remains_next : (p : Problem) → decoded bytes ≡ made p → (next : Made Reason Row) → row (built_column (table_at t nums dens) t term.kind) ≡ next → built p.terms [] ≡ next >>= λ r. built (drop (t + 1) p.terms) (table_at t nums dens ++ (r ∷ []))
              remains_next p held next e =
                  rising.remains p held
                  ∙ built_next p.terms t (table_at t nums dens) (omega (arith, count p held)) (table_length t nums dens)
                  ∙ ap (λ m. m >>= λ r. built (drop (t + 1) p.terms) (table_at t nums dens ++ (r ∷ []))) (ap (λ k. row (built_column (table_at t nums dens) t k)) (kind_is p held) ∙ e)

              -- no place has changed but those of the rows
              kept_to : (m : ℕ) → t < m → Kept 0 (COLUMNS * m) old.work.nums old.work.dens nums' dens'
              kept_to m below =
                  kept_then (kept_within rising.kept 0 (COLUMNS * m) (omega arith) (omega arith)) (kept_within row-built.built.kept 0 (COLUMNS * m) (omega arith) (omega arith))

              -- One row more is built.
              pub rising_goes_on : step ≡ Ok tt → Rising bytes n (t + 1) old (store nums' dens' sets'' heads' inputs')
              unfolding ◌>>=◌
              rising_goes_on done =
                  let built-row = row-built.built in
                  let rows = rising.rows in
                  let few = rising_notes.few in
                  let small = inputs_noted rising_notes noted rising.small in
                  record {
                    reached = omega arith;
                    remains = λ p held.
                        remains_next p held (made (row_at nums' dens' (COLUMNS * t))) (stepped_done built-row.ends done)
                        ∙ ap (λ table. built (drop (t + 1) p.terms) (table ++ (row_at nums' dens' (COLUMNS * t) ∷ []))) (sym (table_kept t built-row.kept))
                        ∙ ap (built (drop (t + 1) p.terms)) (sym (table_more t nums' dens'));
                    rows = record {
                      few = omega arith;
                      nums_fit = omega (arith, rows.nums_fit, built-row.kept.nums_length);
                      dens_fit = omega (arith, rows.dens_fit, built-row.kept.dens_length);
                      sound = built-row.sound done;
                      size = row-built.size ∙ links.size ∙ rows.size;
                      sparse = row-built.sparse;
                    };
                    kept = kept_to (t + 1) (omega arith);
                    calls = λ p held. calls_noted rising_notes noted p.terms (kind_is p held) (rising.calls p held);
                    notes = notes_more rising_notes noted (omega arith) rising.notes;
                    small = small;
                    linked = linked_same (omega arith) (λ j k below place. small.small (3 * j + k) (omega arith)) (λ k low high. row-built.others k (λ e. omega arith)) links.linked;
                    opened = opened_same (λ j below. refl) (row-built.others OPEN (λ e. omega arith)) links.opened;
                  }

              -- It is refused: so is the table.
              pub rising_stops : {why : Reason} → step ≡ Err why → Builds bytes n (Err why) old (store nums' dens' sets'' heads' inputs')
              unfolding stepped ◌>>=◌
              rising_stops {why} stops =
                  record {
                    answers = λ p held. remains_next p held (stopped why) (stepped_refused (row_at nums' dens' (COLUMNS * t)) row-built.built.ends stops);
                    kept = kept_to n more;
                    notes = notes_more rising_notes noted more rising.notes;
                    size = row-built.size ∙ links.size ∙ rising.rows.size ∙ sym asked.sets_size;
                    standing = λ done. absurd (refused_not_done done);
                  }

    -- All rows are built, and every lookup is one to look at.
    pub rising_ends : n ≤ t → Builds bytes n (Ok tt) old (store nums dens (set sets PENDING ALL) heads inputs)
    unfolding stepped built pending_of
    rising_ends over =
        let all : t ≡ n = omega (arith, rising.reached) in
        let rows = rising.rows in
        let few = rows.few in
        let place : PENDING < length sets = omega (arith, rows.size) in
        let others : (k : ℕ) → (k ≡ PENDING → ⊥) → get_or (set sets PENDING ALL) k 0 ≡ get_or sets k 0 = λ k apart. get_or-set_other sets PENDING k ALL 0 apart in
        subst (λ m. Builds bytes m (Ok tt) old (store nums dens (set sets PENDING ALL) heads inputs)) all
        (record {
          answers = λ p held. rising.remains p held ∙ ap (λ rest. built rest (table_at t nums dens)) (ap (λ k. drop k p.terms) (all ∙ count p held) ∙ drop-length p.terms);
          kept = rising.kept;
          notes = rising.notes;
          size = length-set sets PENDING ALL ∙ rows.size ∙ sym asked.sets_size;
          standing = λ done. record {
            rows = record { few = rows.few; nums_fit = rows.nums_fit; dens_fit = rows.dens_fit; sound = rows.sound; size = length-set sets PENDING ALL ∙ rows.size; sparse = sparse_same (λ k below. others k (λ at. omega arith)) rows.sparse };
            calls = rising.calls;
            linked = linked_same few (λ j k below at. rising.small.small (3 * j + k) (omega arith)) (λ k low high. others k (λ at. omega arith)) rising.linked;
            pending = λ j below. ap (λ x. holds x j) (get_or-set_same sets PENDING ALL 0 place) ∙ holds_all j below;
            opened = opened_same (λ j below. refl) (others OPEN (λ at. omega arith)) rising.opened;
          };
        })
