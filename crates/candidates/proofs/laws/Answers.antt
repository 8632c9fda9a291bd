-- `candidates::laws` meets its contract. Assumes nothing.
use Rattle.candidates.proofs.Unions.{face_set_has, union_has, spill_grows, layer_counts, search_drops_none}
use Rattle.candidates.proofs.laws.Goals as goal

pub returns : goal.returns
returns c = record { face_set_has = face_set_has; union_has = union_has; spill_grows = spill_grows; layer_counts = layer_counts; search_drops_none = search_drops_none }
