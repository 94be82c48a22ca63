-- `record_term::all_zero` meets its contract: every field is tested. Assumes nothing.
use Rattle.std.specs.Prelude.{eqb}
use Rattle.std.proofs.Common.{refl, rules}
use Rattle.std.proofs.lemmas.List.Recursion.{and_is}
use Rattle.rules_problem.specs.Record.{every}
use Rattle.record_term.specs.Terms.{all_zeros}
use Rattle.record_term.proofs.all_zero.Goals as goal

pub returns : goal.returns
unfolding all_zeros every
returns c = and_is all_zeros (λ x. eqb x 0) refl (λ _ _. refl) c.args.fields.now 0 _ (search rules) (search rules)
