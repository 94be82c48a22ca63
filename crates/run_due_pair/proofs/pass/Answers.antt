-- `run_due_pair::pass` meets its contract. Assumes nothing.
use mathlib.Core.Path.{ap, ◌∙◌}
use Rattle.std.proofs.Common.{arith}
use lib.ListN.{set, length-set}
use lib.Seq.{get_or-set_same, get_or-set_other}
use Rattle.set_members.specs.Sets.{holds}
use Rattle.run_due_pair.proofs.pass.Goals as goal

pub returns : goal.returns
returns c = let waiting = c.args.waiting.now in
    let j = c.args.j in
    let rights = c.without-rights.result in
    let stored = set waiting j 0 in
    record {
      same_length = length-set stored 64 rights ∙ length-set waiting j 0;
      here = get_or-set_other stored 64 j rights 0 (λ e. omega (arith, c.requires)) ∙ get_or-set_same waiting j 0 0 (omega (arith, c.requires));
      others = λ k apart last. get_or-set_other stored 64 k rights 0 last ∙ get_or-set_other waiting j k 0 0 apart;
      rights = λ k. ap (λ s. holds s k) (get_or-set_same stored 64 rights 0 (omega (arith, c.requires, length-set waiting j 0))) ∙ c.without-rights.ensures k;
    }
