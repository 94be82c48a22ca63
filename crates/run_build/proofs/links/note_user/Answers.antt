-- `run_build::links::note_user` meets its contract. Assumes nothing.
use Rattle.run_build.proofs.Linking.{user_noted}
use Rattle.run_build.proofs.links.note_user.Goals as goal

pub returns : goal.returns
returns c = search user_noted
