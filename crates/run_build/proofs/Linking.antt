-- The links of one more lookup are noted, and what is linked stays so.
-- Main definition: `Using`. Main results: `user_noted`, `using_more`, `earlier_found`, `sparse_same`, `links_none`, `links_traceable`, `links_place`, `links_noted`, `opened_same`. Assume nothing.
use mathlib.Core.Path.{◌≡◌, refl, sym, ap, ◌∙◌}
use mathlib.Core.Logic.{◌⊎◌, inl, inr, ◌≢◌}
use mathlib.Core.Bool.{true, ◌||◌, or-true}
use mathlib.Core.List.{List}
use Prim.Native.Nat.{ℕ, ◌+◌, ◌-◌, ◌*◌, ◌≤◌, ◌<◌}
use native.Mathlib.Decide.{ℕ_discrete, dec_lt}
use native.Mathlib.Omega.{arith}
use borrow.Author.Tests.{eq-eqb}
use lib.Dec.{eqb}
use lib.ListN.{length, get_or, set, length-set}
use lib.Seq.{get_or-set_same, get_or-set_other}
use lib.IntN.{ℤ}
use Rattle.set_members.specs.Sets.{holds}
use Rattle.run_table.specs.Sets.{SETS, USERS, EARLIER, OPEN, columns_of, users_of, earlier_of, open_of, Sparse, Linked}
use Rattle.run_table.proofs.Linked.{linked_kept}
use Rattle.run_build.specs.Contract.{Usable, UserNoted, UsersNoted, Traceable, EarlierFound, Linkable, LinksNoted}
use Rattle.run_build.specs.Links.{UsedBelow, Opened, UsersGrown}

-- A set of users with lookup t added is stored in its place.
pub user_noted : {input t : ℕ} {sets : List ℕ} (users : ℕ) → Usable input t sets → ((k : ℕ) → holds users k ≡ (eqb k t || holds (get_or sets (USERS + input) 0) k)) → UserNoted input t sets (set sets (USERS + input) users)
unfolding users_of
user_noted {input} {t} {sets} users asked told =
    record {
      grown = record {
        same_length = length-set sets place users;
        more = λ k j h. by k j h (ℕ_discrete k place);
        others = λ k out. get_or-set_other sets place k users 0 (apart k out);
      };
      used = ap (λ s. holds s t) stored ∙ told t ∙ ap (λ b. b || holds (get_or sets place 0) t) (eq-eqb t t refl);
    }
  where
    place : ℕ
    place = USERS + input

    stored : get_or (set sets place users) place 0 ≡ users
    stored = get_or-set_same sets place users 0 (omega (arith, asked.small, asked.size))

    by : (k j : ℕ) → holds (get_or sets k 0) j ≡ true → Dec (k ≡ place) → holds (get_or (set sets place users) k 0) j ≡ true
    by k j h (yes same) =
        ap (λ x. holds (get_or (set sets place users) x 0) j) same ∙ ap (λ s. holds s j) stored ∙ told j
        ∙ ap (λ b. eqb j t || b) (ap (λ x. holds (get_or sets x 0) j) (sym same) ∙ h) ∙ or-true (eqb j t)
    by k j h (no other) = ap (λ s. holds s j) (get_or-set_other sets place k users 0 other) ∙ h

    apart : (k : ℕ) → (k < USERS) ⊎ (EARLIER ≤ k) → k ≢ place
    apart k (inl before) = λ e. omega arith
    apart k (inr after) = λ e. omega (arith, asked.small)

-- In the loop over the three inputs of lookup t: it is noted as a user of the first i.
pub record Using (i t : ℕ) (inputs sets₀ sets : List ℕ) : Type 0 where
  pub grown : UsersGrown sets₀ sets
  pub used : UsedBelow i t inputs sets

module _ {i t : ℕ} {inputs sets₀ sets : List ℕ} (so_far : Using i t inputs sets₀ sets) where
  -- One place more: the sets have grown, and t is among the users of what stands there.
  pub using_more : {sets' : List ℕ} → UserNoted (get_or inputs (3 * t + i) 0) t sets sets' → Using (i + 1) t inputs sets₀ sets'
  unfolding users_of
  using_more {sets'} noted =
      record {
        grown = record {
          same_length = noted.grown.same_length ∙ so_far.grown.same_length;
          more = λ k j h. noted.grown.more k j (so_far.grown.more k j h);
          others = λ k out. noted.grown.others k out ∙ so_far.grown.others k out;
        };
        used = record { used = λ k below. by k below (ℕ_discrete k i) };
      }
    where
      by : (k : ℕ) → k < i + 1 → Dec (k ≡ i) → holds (get_or sets' (USERS + get_or inputs (3 * t + k) 0) 0) t ≡ true
      by k below (yes at) = rw at noted.used
      by k below (no other) = noted.grown.more (USERS + get_or inputs (3 * t + k) 0) t (so_far.used.used k (omega arith))

-- In the loop back from lookup t no lookup from i on has its head, but the one before has: it, and those noted for it, are all the
-- lookups before t with its head.
pub earlier_found : {i t r : ℕ} {heads sets : List ℕ} → Traceable t heads sets → i ≤ t → 0 < i → ((k : ℕ) → i ≤ k → k < t → get_or heads k 0 ≡ get_or heads t 0 → ⊥)
    → get_or heads (i - 1) 0 ≡ get_or heads t 0 → ((k : ℕ) → holds r k ≡ (eqb k (i - 1) || holds (get_or sets (EARLIER + (i - 1)) 0) k)) → EarlierFound t heads r
unfolding earlier_of
earlier_found {i} {t} {r} {heads} {sets} asked reach more others here told = record { inside = λ k below same. by k below same (dec_lt k (i - 1)) (ℕ_discrete k (i - 1)) }
  where
    by : (k : ℕ) → k < t → get_or heads k 0 ≡ get_or heads t 0 → Dec (k < i - 1) → Dec (k ≡ i - 1) → holds r k ≡ true
    by k below same (yes before) _ =
        told k ∙ ap (λ b. eqb k (i - 1) || b) (asked.traced.earlier k (i - 1) before (omega arith) (λ none. asked.lookup (sym here ∙ none)) (same ∙ sym here)) ∙ or-true (eqb k (i - 1))
    by k below same (no _) (yes at) = told k ∙ ap (λ b. b || holds (get_or sets (EARLIER + (i - 1)) 0) k) (eq-eqb k (i - 1) at)
    by k below same (no late) (no other) = absurd (others k (omega arith) below same)

-- Sets of columns that stay have the same rows within them.
pub sparse_same : {n : ℕ} {nums : List ℤ} {sets sets' : List ℕ} → ((k : ℕ) → k < n → get_or sets' k 0 ≡ get_or sets k 0) → Sparse n nums sets → Sparse n nums sets'
unfolding columns_of
sparse_same same sparse = record { within = λ t below. rw (same t below) (sparse.within t below) }

-- One term more: it is no lookup, or its links are noted.
linked_more : {t : ℕ} {heads inputs sets : List ℕ} → ((get_or heads t 0 ≡ 0 → ⊥) → ((k : ℕ) → k < 3 → holds (users_of sets (get_or inputs (3 * t + k) 0)) t ≡ true) × ((i : ℕ) → i < t → get_or heads i 0 ≡ get_or heads t 0 → holds (earlier_of sets t) i ≡ true)) → Linked t heads inputs sets → Linked (t + 1) heads inputs sets
linked_more {t} {heads} {inputs} {sets} own linked =
    record { users = λ j k below place lookup. used j k below place lookup (ℕ_discrete j t); earlier = λ i j before below lookup same. after i j before below lookup same (ℕ_discrete j t) }
  where
    used : (j k : ℕ) → j < t + 1 → k < 3 → (get_or heads j 0 ≡ 0 → ⊥) → Dec (j ≡ t) → holds (users_of sets (get_or inputs (3 * j + k) 0)) j ≡ true
    used j k below place lookup (yes at) = rw at ((own (λ none. lookup (ap (λ x. get_or heads x 0) at ∙ none))).0 k place)
    used j k below place lookup (no other) = linked.users j k (omega arith) place lookup

    after : (i j : ℕ) → i < j → j < t + 1 → (get_or heads j 0 ≡ 0 → ⊥) → get_or heads i 0 ≡ get_or heads j 0 → Dec (j ≡ t) → holds (earlier_of sets j) i ≡ true
    after i j before below lookup same (yes at) =
        rw at ((own (λ none. lookup (ap (λ x. get_or heads x 0) at ∙ none))).1 i (omega arith) (same ∙ ap (λ x. get_or heads x 0) at))
    after i j before below lookup same (no other) = linked.earlier i j before (omega arith) lookup same

-- One term more: no lookup, or one that is open.
opened_more : {t : ℕ} {heads sets₀ sets : List ℕ} → ((k : ℕ) → holds (open_of sets₀) k ≡ true → holds (open_of sets) k ≡ true) → ((get_or heads t 0 ≡ 0 → ⊥) → holds (open_of sets) t ≡ true) → Opened t heads sets₀ → Opened (t + 1) heads sets
opened_more {t} {heads} {sets₀} {sets} kept own opened = record { inside = λ j below lookup. by j below lookup (ℕ_discrete j t) }
  where
    by : (j : ℕ) → j < t + 1 → (get_or heads j 0 ≡ 0 → ⊥) → Dec (j ≡ t) → holds (open_of sets) j ≡ true
    by j below lookup (yes at) = rw at (own (λ none. lookup (ap (λ x. get_or heads x 0) at ∙ none)))
    by j below lookup (no other) = kept j (opened.inside j (omega arith) lookup)

module _ {t : ℕ} {heads inputs sets₀ : List ℕ} (asked : Linkable t heads inputs sets₀) where
  -- Term t is no lookup: there is nothing to note.
  pub links_none : get_or heads t 0 ≡ 0 → LinksNoted t heads inputs sets₀ sets₀
  links_none none =
      record {
        linked = linked_more (λ lookup. absurd (lookup none)) asked.linked;
        opened = opened_more {sets₀ = sets₀} (λ k inside. inside) (λ lookup. absurd (lookup none)) asked.opened;
        size = refl;
        columns = λ k below. refl;
      }

  module _ {sets : List ℕ} (users : UsersNoted t inputs sets₀ sets) where
    sized : length sets ≡ SETS
    sized = users.grown.same_length ∙ asked.size

    -- Where only sets of users have grown, the lookups before each one are noted as they were.
    pub links_traceable : (get_or heads t 0 ≡ 0 → ⊥) → Traceable t heads sets
    unfolding earlier_of
    links_traceable lookup =
        record {
          few = asked.few;
          heads_size = asked.heads_size;
          size = sized;
          traced = record { earlier = λ i j before below is same. users.grown.more (EARLIER + j) i (asked.linked.earlier i j before below is same) };
          lookup = lookup;
        }

    pub links_place : (earlier : ℕ) → OPEN < length (set sets (EARLIER + t) earlier)
    links_place earlier = omega (arith, length-set sets (EARLIER + t) earlier, sized)

    -- One lookup more: its users have grown, the earlier ones of its function are stored in their place, and it is open.
    pub links_noted : (earlier wide : ℕ) → EarlierFound t heads earlier → ((k : ℕ) → holds wide k ≡ (eqb k t || holds (get_or sets OPEN 0) k)) → LinksNoted t heads inputs sets₀ (set (set sets (EARLIER + t) earlier) OPEN wide)
    unfolding users_of earlier_of open_of
    links_noted earlier wide found told =
        record {
          linked = linked_more (λ lookup. (own_users, own_earlier)) (linked_kept (omega (arith, asked.few)) (λ j k below place. asked.small.small (3 * j + k) (omega arith)) (λ j below. refl) (λ k below. refl) more asked.linked);
          opened = opened_more {sets₀ = sets₀}
              (λ k inside. ap (λ s. holds s k) open_set ∙ told k ∙ ap (λ b. eqb k t || b) (ap (λ s. holds s k) (users.grown.others OPEN (inr (omega arith))) ∙ inside) ∙ or-true (eqb k t))
              (λ lookup. ap (λ s. holds s t) open_set ∙ told t ∙ ap (λ b. b || holds (get_or sets OPEN 0) t) (eq-eqb t t refl))
              asked.opened;
          size = length-set with_earlier OPEN wide ∙ length-set sets (EARLIER + t) earlier ∙ users.grown.same_length;
          columns = λ k below. stays k (λ e. omega arith) (λ e. omega arith) ∙ users.grown.others k (inl below);
        }
      where
        with_earlier : List ℕ
        with_earlier = set sets (EARLIER + t) earlier

        stays : (k : ℕ) → (k ≡ EARLIER + t → ⊥) → (k ≡ OPEN → ⊥) → get_or (set with_earlier OPEN wide) k 0 ≡ get_or sets k 0
        stays k apart closed = get_or-set_other with_earlier OPEN k wide 0 closed ∙ get_or-set_other sets (EARLIER + t) k earlier 0 apart

        open_set : get_or (set with_earlier OPEN wide) OPEN 0 ≡ wide
        open_set = get_or-set_same with_earlier OPEN wide 0 (links_place earlier)

        more : (k j : ℕ) → USERS ≤ k → k < EARLIER + t → holds (get_or sets₀ k 0) j ≡ true → holds (get_or (set with_earlier OPEN wide) k 0) j ≡ true
        more k j low high h = ap (λ s. holds s j) (stays k (λ e. omega arith) (λ e. omega (arith, asked.few))) ∙ users.grown.more k j h

        own_users : (k : ℕ) → k < 3 → holds (get_or (set with_earlier OPEN wide) (USERS + get_or inputs (3 * t + k) 0) 0) t ≡ true
        own_users k place =
            let input = asked.small.small (3 * t + k) (omega arith) in
            ap (λ s. holds s t) (stays (USERS + get_or inputs (3 * t + k) 0) (λ e. omega arith) (λ e. omega arith)) ∙ users.used.used k place

        own_earlier : (i : ℕ) → i < t → get_or heads i 0 ≡ get_or heads t 0 → holds (get_or (set with_earlier OPEN wide) (EARLIER + t) 0) i ≡ true
        own_earlier i before same =
            ap (λ s. holds s i) (get_or-set_other with_earlier OPEN (EARLIER + t) wide 0 (λ e. omega (arith, asked.few)) ∙ get_or-set_same sets (EARLIER + t) earlier 0 (omega (arith, asked.few, sized)))
            ∙ found.inside i before same

-- The open lookups stay where heads and the set of them do.
pub opened_same : {n : ℕ} {heads heads' sets sets' : List ℕ} → ((j : ℕ) → j < n → get_or heads' j 0 ≡ get_or heads j 0) → get_or sets' OPEN 0 ≡ get_or sets OPEN 0 → Opened n heads sets → Opened n heads' sets'
unfolding open_of
opened_same same-heads same opened = record { inside = λ j below lookup. ap (λ s. holds s j) same ∙ opened.inside j below (λ none. lookup (same-heads j below ∙ none)) }
