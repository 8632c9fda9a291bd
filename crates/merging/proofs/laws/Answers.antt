-- `merging::laws` meets its contract. Assumes nothing.
use Rattle.merging.proofs.Merged.{marks_apart, marks_joined, faces_joined, stored_joined}
use Rattle.merging.proofs.laws.Goals as goal

pub returns : goal.returns
returns c = record { marks_apart = marks_apart; marks_joined = marks_joined; faces_joined = faces_joined; stored_joined = stored_joined }
