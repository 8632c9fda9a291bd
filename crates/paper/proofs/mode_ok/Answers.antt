use mathlib.Core.Path.{refl}
use Rattle.paper.specs.Geometry.{mode_ok}
use Rattle.paper.proofs.mode_ok.Goals as goal

pub returns : goal.returns
unfolding mode_ok
returns c = refl
