-- `basis::laws`: each law is a theorem of proofs/. Assumes nothing.
use Rattle.basis.proofs.Projections.{component_place, length_projected, entry_is_dot}
use Rattle.basis.proofs.Bases.{each_finite}
use Rattle.basis.proofs.laws.Goals as goal

pub returns : goal.returns
returns c = record {
  component_place = component_place;
  length_projected = length_projected;
  entry_is_dot = entry_is_dot;
  each_finite = each_finite;
}
