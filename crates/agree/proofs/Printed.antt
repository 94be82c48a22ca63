-- What is written for a byte string is the listing that the rules lay down for it.
-- Main results: `outcome_listed`, `short_listed`, `calls_list`, `calls_print`. Assume nothing.
use Rattle.std.specs.Prelude.{Result, Ok, Err, IsOk}
use mathlib.Core.Path.{◌≡◌, refl, sym, ap, ◌∙◌}
use mathlib.Core.Bool.{Bool, true, false, cond}
use mathlib.Core.List.{List}
use Prim.Native.Nat.{ℕ, ◌+◌, ◌≤◌}
use native.Mathlib.Omega.{arith}
use lib.ListN.{length, take, drop}
use lib.Seq.{take_at}
use Rattle.answer.specs.declared.Answer.{Answer}
use Rattle.answer.specs.declared.Answer.TheVariants.{Entailed, NotEntailed, Contradictory, Refused}
use Rattle.answer.specs.Refusals.{number_of}
use Rattle.answer.specs.declared.Refusal.{Refusal}
use Rattle.answer.specs.declared.Reason.TheVariants as reason
use Rattle.fraction.specs.Made.{Made, made, stopped}
use Rattle.rules_problem.specs.Bits.{field}
use Rattle.rules_problem.specs.Problem.{Pair, Problem, decoded}
use Rattle.rules_problem.proofs.Holding.{terms_count}
use Rattle.laws_valuation.specs.Sound.{Sound}
use Rattle.laws_valuation.proofs.Decoded.{decoded_sound}
use Rattle.rules_run.specs.Row.{TERMS, same_row}
use Rattle.rules_run.specs.Merge.{State}
use Rattle.rules_run.specs.Run.{Ranking, highest_number, run, judged}
use Rattle.laws_invariant.specs.Invariant.{Strict, Ended}
use Rattle.laws_invariant.proofs.Granted.{highest_number_strict, sound_shaped, sound_sides}
use Rattle.laws_invariant.proofs.Run.{run_finished, run_stopped}
use Rattle.rules_outcome.specs.Outcome.{unread, cut_short, finished, after_run, after_reading, decision, answered, Lent, Long, is_long, Outcome, rows, after, outcome}
use Rattle.rules_outcome.proofs.Decided.{outcome_short, outcome_long_enough}
use Rattle.run_finish.specs.Lent.{comes_back}
use Rattle.decide.specs.Decided.{Decided}
use Rattle.rules_listing.specs.Line.{first_line}
use Rattle.rules_listing.specs.Listing.{listed, listing, put_at, Listed, ROOM}
use Rattle.rules_listing.specs.Page.{rows_listed, list_page, PAGE}
use Rattle.list_lines.specs.Contract.{reached_of, listed_by, place_of}
use Rattle.list_page.specs.Contract.{Paged}
use Rattle.agree.specs.Contract.{Prints}
use Rattle.laws_invariant.proofs.Limits.{run_limited}
use Rattle.agree.proofs.Pages.{put, first_alone, first_then_rows}

-- The answer of a run that stops has no rows,
stopped_rows : (problem : Problem) (answer : Answer) (n : ℕ) → Ended problem.terms problem.pairs answer → rows_listed answer n ≡ 0
unfolding Ended rows_listed
stopped_rows problem (Entailed solved) n ended = absurd ended
stopped_rows problem (NotEntailed solved) n ended = absurd ended
stopped_rows problem (Contradictory place) n ended = refl
stopped_rows problem (Refused number place) n ended = refl

-- and that of a finished run has all.
module _ (goal : Pair) (state : State) where
  judged_rows : (n : ℕ) → rows_listed (judged goal state) n ≡ n
  unfolding judged rows_listed
  judged_rows n = by (same_row state.table goal.left goal.right)
    where
      by : (b : Bool) → rows_listed (cond b (Entailed state.solved) (NotEntailed state.solved)) n ≡ n
      by true = refl
      by false = refl

module _ (ranking : Ranking) (strict : Strict ranking) (bytes : List ℕ) (lent : Lent) (buffer : List ℕ) where
  -- the page of what comes back
  abbrev page_for : Outcome → Listed
  page_for o = list_page o.left.numerators o.left.denominators bytes o.answer buffer

  unread_listed : (refusal : Refusal) → ROOM ≤ length buffer → page_for (after (unread refusal) lent) ≡ put (listed (unread refusal)) 0 buffer
  unfolding list_page listed after answered rows_listed
  unread_listed refusal room = first_alone _ _ (Refused (number_of refusal.reason) refusal.place) (field bytes 0 8) buffer refl room

  -- Lists that are too short: the first line of refusal 1.
  pub short_listed : is_long lent ≡ false → ROOM ≤ length buffer → page_for (outcome ranking bytes lent) ≡ put (first_line (Refused (number_of reason.Space) 0)) 0 buffer
  unfolding listed answered
  short_listed short room = ap page_for (outcome_short ranking bytes lent short) ∙ unread_listed (record { reason = reason.Space; place = 0 }) room

  module _ (long : Long lent) (room : PAGE ≤ length buffer) where
    module _ (problem : Problem) (read : decoded bytes ≡ made problem) where
      sound : Sound problem
      sound = decoded_sound bytes problem read

      stopped_listed : (answer : Answer) → run ranking problem ≡ stopped answer → page_for (after (cut_short answer) lent) ≡ put (listed (cut_short answer)) 0 buffer
      unfolding list_page listed after
      stopped_listed answer h =
          let none = stopped_rows problem answer (field bytes 0 8) (run_stopped ranking problem strict (sound_shaped problem sound) (sound_sides problem sound) answer h) in
          first_alone _ _ answer (field bytes 0 8) buffer none (omega arith)

      finished_listed : (state : State) → run ranking problem ≡ made state → page_for (after (finished (judged problem.goal state) state.table) lent) ≡ put (listed (finished (judged problem.goal state) state.table)) 0 buffer
      unfolding list_page listed after rows
      finished_listed state h =
          let complete = run_finished ranking problem strict (sound_shaped problem sound) (sound_sides problem sound) state h in
          let sized : length state.table ≡ field bytes 0 8 = complete.invariant.sized ∙ terms_count bytes problem read in
          let few : length problem.terms ≤ TERMS = sound.most in
          first_then_rows state.table lent.numerators lent.denominators (run_limited ranking bytes problem read state h) long.numerators long.denominators
          (omega (arith, complete.invariant.sized))
          (judged problem.goal state) (field bytes 0 8) buffer
          (judged_rows problem.goal state (field bytes 0 8) ∙ sym sized)
          room

      run_listed : (step : Made Answer State) → run ranking problem ≡ step → page_for (after (after_run problem step) lent) ≡ put (listed (after_run problem step)) 0 buffer
      unfolding after_run
      run_listed (made state) h = finished_listed state h
      run_listed (stopped answer) h = stopped_listed answer h

    -- What comes back, listed from the start of a buffer of 133,120 bytes, is the rules' listing of the byte string, and nothing else changes.
    pub outcome_listed : page_for (outcome ranking bytes lent) ≡ put (listing ranking bytes) 0 buffer
    unfolding listing decision after_reading
    outcome_listed = ap page_for (outcome_long_enough ranking bytes lent long) ∙ by (decoded bytes) refl
      where
        by : (step : Made Refusal Problem) → decoded bytes ≡ step → page_for (after (after_reading ranking step) lent) ≡ put (listed (after_reading ranking step)) 0 buffer
        by (made problem) read = run_listed problem read (run ranking problem) refl
        by (stopped refusal) read = unread_listed refusal (omega arith)

take_put : (text buffer : List ℕ) → take (0 + length text) (put_at 0 text buffer) ≡ text
unfolding put_at
take_put text buffer = take_at text (drop (0 + length text) buffer) (0 + length text) (omega arith)

-- Where a text was put from the start, the place answered is its end.
reached_end : (r : Result ℕ Refusal) (end : ℕ) → reached_of r ≡ made end → r ≡ Ok end
unfolding reached_of
reached_end (Ok place) end same = ap Ok cc
reached_end (Err why) end same = cc

-- From the contracts of `decide::decide` and `list_page::listing_of` alone: where a program calls the one, with lists that are long enough, and
-- then the other, with what the first left and a buffer of 133,120 bytes,
module _ {bytes : List ℕ} {lent left : Lent} {answer : Answer} {before text : List ℕ} {r : Result ℕ Refusal} (long : Long lent) (room : PAGE ≤ length before)
    (decided : Decided bytes lent (comes_back answer left)) (lists : Paged left.numerators left.denominators bytes answer before text r) where
  lines : List ℕ
  lines = listing highest_number bytes

  put_so : listed_by r text ≡ put lines 0 before
  unfolding lines
  put_so =
      lists.answers
      ∙ ap (λ o. list_page o.left.numerators o.left.denominators bytes o.answer before) (sym decided.rules)
      ∙ outcome_listed highest_number highest_number_strict bytes lent before long room

  reached : r ≡ Ok (0 + length lines)
  unfolding put listed_by
  reached = reached_end r _ (ap (λ l. l.reached) put_so)

  -- the listing is not refused,
  pub calls_list : IsOk r
  calls_list = rw reached refl

  -- and the bytes before its end are the rules' listing.
  pub calls_print : Prints bytes text (place_of r)
  unfolding put listed_by place_of lines
  calls_print =
      let end : place_of r ≡ 0 + length lines = ap place_of reached in
      let written : text ≡ put_at 0 lines before = ap (λ l. l.buffer) put_so in
      record { within = lists.within; printed = rw (end, written) (take_put lines before) }
