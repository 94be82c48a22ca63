-- The three demands, from the contract of `decide` alone: of any program whose every call is as the contract promises. That `decide` is
-- such a program is what `Decided` in its contract says; `decide_lays_down` (crate `decide`) reads it from the contract itself.
-- Main results: `presumes_nothing`, `tells_the_truth`, `ignores_order`. Assume nothing.
use mathlib.Core.Path.{sym, subst, subst₂}
use mathlib.Core.List.{List}
use Prim.Native.Nat.{ℕ, ◌≤◌}
use Rattle.answer.specs.Said.{said}
use Rattle.rules_run.specs.Run.{highest_number}
use Rattle.rules_outcome.specs.Outcome.{Lent}
use Rattle.rules_demands.specs.Demands.{Program, NothingPresumed, NotRefused, EqualIsTrue}
use Rattle.rules_demands.specs.Order.{SameOutcome, OrderDoesNotMatter, unknowns}
use Rattle.laws_invariant.proofs.Granted.{highest_number_strict}
use Rattle.laws_order.proofs.Order.{rules_ignore_order}
use Rattle.decide.specs.Decided.{Decided}

module _ (program : Program) (promised : (bytes : List ℕ) (lent : Lent) → Decided bytes lent (program bytes lent)) where
  -- Demand 1: nothing is presumed of the byte string or of the lists.
  pub presumes_nothing : NothingPresumed highest_number program
  unfolding NothingPresumed
  presumes_nothing bytes lent = sym (promised bytes lent).rules

  -- Demand 2: what comes back is true.
  pub tells_the_truth : EqualIsTrue highest_number program
  unfolding EqualIsTrue
  tells_the_truth bytes lent problem long read = (promised bytes lent).truth problem long read

  -- Demand 3: the order of the assumptions does not matter.
  pub ignores_order : OrderDoesNotMatter highest_number program
  ignores_order =
      let rules = rules_ignore_order highest_number highest_number_strict in
      record {
        true_table = tells_the_truth;
        same = λ bytes bytes' lent lent' p q long long' read read' same passed passed'.
            subst₂ SameOutcome (promised bytes lent).rules (promised bytes' lent').rules
            (rules.same bytes bytes' lent lent' p q long long' read read' same
            (subst NotRefused (sym (promised bytes lent).rules) passed) (subst NotRefused (sym (promised bytes' lent').rules) passed'));
        bounded = λ bytes lent p read.
            subst (λ o. (said o.answer).count ≤ unknowns p.terms) (promised bytes lent).rules (rules.bounded bytes lent p read);
      }
