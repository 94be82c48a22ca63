-- `run_build::links::note_links` meets its contract. Assumes nothing.
use Rattle.run_build.proofs.Linking.{links_noted}
use Rattle.run_build.proofs.links.note_links.Goals as goal

pub returns : goal.returns
returns c = search links_noted
