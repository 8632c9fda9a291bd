-- `sqrt::laws`: each law is a theorem of proofs/. Assumes nothing.
use Rattle.sqrt.proofs.Near.{sqrt_unique, nearer_above, nearer_below}
use Rattle.sqrt.proofs.Function.{root_of_is, sqrt_is, root_finite}
use Rattle.sqrt.proofs.Values.{value}
use Rattle.sqrt.proofs.Order.{root_mono, below_root}
use Rattle.sqrt.proofs.FloatRoot.{sign_negates, root_nearest, float_sized}
use Rattle.sqrt.proofs.laws.Goals as goal

pub returns : goal.returns
returns c = record {
  sqrt_unique = sqrt_unique;
  root_of_is = root_of_is;
  sqrt_is = sqrt_is;
  value = value;
  sign_negates = sign_negates;
  nearer_above = nearer_above;
  nearer_below = nearer_below;
  root_finite = root_finite;
  root_mono = root_mono;
  below_root = below_root;
  root_nearest = root_nearest;
  float_sized = float_sized;
}
