-- The contract of `input::read_full` leaves one answer where the bytes of the input are known.
-- Main result: `read_full_unique`. Assumes nothing.
use Rattle.std.specs.Prelude.{◌≡◌, List, [], ◌++◌, ℕ, ◌≤◌, ◌<◌, length, take, Option, Some, None, Result, Ok, IfOk}
use Rattle.std.specs.Io.KnownBytes.{Consumes, IsAtEnd}
use Rattle.std.specs.declared.io.traits.Read.{Ghosts}
use Rattle.std.proofs.Common.{arith, sym, ap, ◌∙◌, subst, length-take-le}
use Rattle.std.proofs.Math.Seq.{take-append_seam}
use Rattle.std.proofs.lemmas.List.{length-append}
use native.Mathlib.Decide.{dec_lt}
use denote.RattleType.{RattleType}
use denote.Param.Laws.{Laws}
use mir.Syntax.{Dict}
use Rattle.unique.specs.Twice.{Twice}
use Rattle.input.proofs.read_full.Kinds.{ps, r}
use Rattle.input.proofs.read_full.Reads.{Post}

-- As many bytes as there are, or as there is room for.
no_fewer : (xs ys zs front front' : List ℕ) (room : ℕ) → xs ≡ front ++ ys → xs ≡ front' ++ zs → length front' ≤ room
    → (length front < room → ys ≡ []) → length front < length front' → ⊥
no_fewer xs ys zs front front' room first second within ended fewer =
    let none = ap length (ended (omega (arith, within, fewer))) in
    let one = ap length first ∙ length-append front ys in
    let other = ap length second ∙ length-append front' zs in
    omega (arith, none, one, other, fewer)

-- So the same bytes stand in front.
same_front : (xs ys zs front front' : List ℕ) → xs ≡ front ++ ys → xs ≡ front' ++ zs → length front ≡ length front' → front ≡ front'
same_front xs ys zs front front' first second same =
    sym (take-append_seam front ys) ∙ ap (take (length front)) (sym first ∙ second) ∙ ap (λ n. take n (front' ++ zs)) same ∙ take-append_seam front' zs

same_read : (xs : List ℕ) (n m : ℕ) (new new' : Option (List ℕ)) (buf buf' : List ℕ) → length buf ≡ length buf' → n ≤ length buf → m ≤ length buf'
    → Consumes (Some xs) new (take n buf) → Consumes (Some xs) new' (take m buf') → (n < length buf → IsAtEnd new) → (m < length buf' → IsAtEnd new')
    → (n ≡ m) × (take n buf ≡ take m buf')
same_read xs n m None new' buf buf' room within within' first second ended ended' = absurd first
same_read xs n m (Some ys) None buf buf' room within within' first second ended ended' = absurd second
same_read xs n m (Some ys) (Some zs) buf buf' room within within' first second ended ended' =
    (count, same_front xs ys zs front front' first second (long ∙ count ∙ sym long'))
  where
    front : List ℕ
    front = take n buf

    front' : List ℕ
    front' = take m buf'

    long : length front ≡ n
    long = length-take-le n buf within

    long' : length front' ≡ m
    long' = length-take-le m buf' within'

    by : Dec (n < m) → Dec (m < n) → n ≡ m
    by (yes fewer) other =
        absurd (no_fewer xs ys zs front front' (length buf) first second (omega (arith, long', within', room)) (λ h. ended (omega (arith, long, h))) (omega (arith, long, long', fewer)))
    by (no more) (yes fewer) =
        absurd (no_fewer xs zs ys front' front (length buf') second first (omega (arith, long, within, room)) (λ h. ended' (omega (arith, long', h))) (omega (arith, long, long', fewer)))
    by (no more) (no fewer) = omega arith

    count : n ≡ m
    count = by (dec_lt n m) (dec_lt m n)

ok_says : {E : Type 0} {result : Result ℕ E} {n : ℕ} (P : ℕ → Type 0) → IfOk result P → result ≡ Ok n → P n
ok_says P holds is = subst (λ result. IfOk result P) is holds

-- Two calls on one input, whose bytes are known, that do not fail.
pub read_full_unique : (T : RattleType) (laws : Laws T) (R : Ghosts T.Denot) (d : Dict)
    → Twice (ps T laws) (r T laws) (Post T laws R d) λ κs (input, (buf, _)) x y (input', (buf', _)) (input'', (buf'', _)).
    (xs : List ℕ) (n m : ℕ) → R.remaining input.now ≡ Some xs → x ≡ Ok n → y ≡ Ok m → (n ≡ m) × (take n buf'.now ≡ take m buf''.now)
read_full_unique T laws R d κs a x y end end' first second xs n m known is is' =
    same_read xs n m (R.remaining end.0.now) (R.remaining end'.0.now) end.1.0.now end'.1.0.now
    (first.1.1.1 ∙ sym second.1.1.1) (ok_says _ first.0 is) (ok_says _ second.0 is')
    (subst (λ o. Consumes o (R.remaining end.0.now) (take n end.1.0.now)) known (ok_says _ first.1.0 is))
    (subst (λ o. Consumes o (R.remaining end'.0.now) (take m end'.1.0.now)) known (ok_says _ second.1.0 is'))
    (ok_says _ first.1.1.0 is) (ok_says _ second.1.1.0 is')
