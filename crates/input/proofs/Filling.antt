-- One read more behind those before it.
-- Main result: `consumes_more`. Assumes nothing.
use Rattle.std.specs.Prelude.{◌≡◌, List, ℕ, ◌+◌, ◌≤◌, ◌++◌, length, take, Option}
use Rattle.std.specs.Io.KnownBytes.{Consumes}
use Rattle.std.proofs.Common.{sym, ap, ◌∙◌, subst, length-take-le}
use Rattle.std.proofs.KnownBytes.{Consumes-trans}
use Rattle.std.proofs.Math.Seq.{take-append-add}
use Rattle.std.proofs.lemmas.List.{take-append-le}
use borrow.Rule.Slice.PartMut.{put_mid, post_of}

-- What a read puts behind `done` bytes of a buffer stands behind them.
taken : (done got room : ℕ) (buf part : List ℕ) → done ≤ length buf → got ≤ length part → take (done + got) (put_mid done room buf part) ≡ take done buf ++ take got part
taken done got room buf part within fits =
    let front = take done buf in
    let rest = part ++ post_of done room buf in
    ap (λ n. take (n + got) (front ++ rest)) (sym (length-take-le done buf within)) ∙ take-append-add front rest got ∙ ap (λ l. front ++ l) (take-append-le got part _ fits)

-- What was consumed before and what the read consumes is consumed in all.
pub consumes_more : (old mid new : Option (List ℕ)) (done got room : ℕ) (buf part : List ℕ) → Consumes old mid (take done buf) → Consumes mid new (take got part) → done ≤ length buf → got ≤ length part → Consumes old new (take (done + got) (put_mid done room buf part))
consumes_more old mid new done got room buf part before read within fits =
    subst (Consumes old new) (sym (taken done got room buf part within fits)) (Consumes-trans _ _ _ _ _ before read)
