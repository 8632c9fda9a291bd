-- `adding::put_vector` meets its contract. Assumes nothing.
use mathlib.Core.Path.{◌∙◌, refl}
use Rattle.adding.specs.Adding.{with_vector}
use Rattle.adding.proofs.put_vector.Goals as goal

pub returns : goal.returns
unfolding with_vector
returns c = c.put_components.ensures ∙ rw (c.component_size-size.ensures, c.normalize_into.ensures.1) refl
