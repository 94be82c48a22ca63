-- `record_reader::judge` meets its contract: test 5 comes before test 6.
-- Assumes nothing.
use Rattle.record_reader.proofs.Decoding.{answers_term}
use Rattle.record_reader.proofs.judge.Goals as goal

pub returns-in-Some : goal.returns-in-Some
returns-in-Some c = answers_term c.requires c.in-Some.ensures
