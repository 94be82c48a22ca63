-- `record_term::all_below` meets its contract: every input is tested. Assumes nothing.
use Rattle.std.specs.Prelude.{ltb}
use Rattle.std.proofs.Common.{refl, rules}
use Rattle.std.proofs.lemmas.List.Recursion.{and_is}
use Rattle.rules_problem.specs.Record.{every}
use Rattle.record_term.specs.Terms.{below}
use Rattle.record_term.proofs.all_below.Goals as goal

pub returns : goal.returns
unfolding below every
returns c = and_is (below c.args.own) (λ x. ltb x c.args.own) refl (λ _ _. refl) c.args.inputs.now 0 _ (search rules) (search rules)
