-- `decide::decide_sound` meets its contract. Assumes nothing.
use Rattle.decide.proofs.Whole.{read_facts, facts_held, then_finishable, decides_rows, decides_cleared}
use Rattle.std.proofs.Common.{rules}
use Rattle.decide.proofs.decide_sound.Goals as goal

pub run_all-requires : goal.run_all-requires
run_all-requires c = let facts = read_facts c.requires.sound in
    record {
      begins = record {
        held = facts_held facts;
        terms = facts.terms;
        nums_fit = c.requires.long.numerators;
        dens_fit = c.requires.long.denominators;
        heads_size = search rules;
        inputs_size = search rules;
        sets_size = search rules;
      };
      pairs = facts.pairs;
    }

pub with_rows-requires : goal.with_rows-requires
with_rows-requires c = then_finishable c.requires c.run_all.ensures c.in-Ok.is

pub cleared-requires : goal.cleared-requires
cleared-requires c = record { numerators = search rules; denominators = search rules }

pub returns-in-Ok : goal.returns-in-Ok
returns-in-Ok c = decides_rows c.requires c.run_all.ensures c.in-Ok.is c.with_rows.ensures

pub returns-in-Err : goal.returns-in-Err
returns-in-Err c = decides_cleared c.requires c.run_all.ensures c.in-Err.is c.cleared.ensures
