use mathlib.Core.Path.{ap, ◌∙◌}
use lib.Ieee.{binary32, of_bits}
use Rattle.sqrt.specs.RootOf.{root, root_of}
use native.Mathlib.Omega.{arith}
use Rattle.sqrt.proofs.Function.{sqrt_is}
use Rattle.sqrt.proofs.sqrt.Goals as goal

pub returns : goal.returns
unfolding root
returns c = c.of_bits.ensures ∙ ap (of_bits binary32) (sqrt_is _ _ (omega arith) c.sqrt_bits.ensures ∙ ap root_of c.bits_of.ensures)
