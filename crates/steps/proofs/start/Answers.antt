use mathlib.Core.Path.{refl}
use Rattle.steps.specs.Steps.{start_of}
use Rattle.steps.proofs.start.Goals as goal

pub returns : goal.returns
unfolding start_of
returns c = refl
