use mathlib.Core.Path.{refl}
use lib.Ieee.{of_bits}
use Rattle.result.specs.Sets.{empty_set}
use Rattle.result.proofs.inner.empty.Goals as goal

pub returns : goal.returns
unfolding of_bits empty_set
returns c = refl
