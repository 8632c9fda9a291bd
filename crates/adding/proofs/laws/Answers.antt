-- `adding::laws` meets its contract. Assumes nothing.
use Rattle.adding.proofs.Accepted.{stored_back}
use Rattle.adding.proofs.Kept.{added_face, faces_stay, added_mark, marks_stay, stored_stay}
use Rattle.adding.proofs.laws.Goals as goal

pub returns : goal.returns
returns c =
    record { added_face = added_face; faces_stay = faces_stay; added_mark = added_mark; marks_stay = marks_stay; stored_back = stored_back; stored_stay = stored_stay }
