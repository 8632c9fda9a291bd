use native.Mathlib.Omega.{arith}
use Rattle.steps.specs.Memory.{zero_f}
use Rattle.steps.proofs.Room.{taken}
use Rattle.steps.proofs.Cases.{vector_is}
use Rattle.steps.proofs.inner.vector_of.Goals as goal

pub slice_bounds-floats_at-end : goal.slice_bounds-floats_at-end
slice_bounds-floats_at-end c = taken c.args.d 8 zero_f c.requires.0

pub floats_at-requires : goal.floats_at-requires
floats_at-requires c = omega (arith, taken c.args.d 8 zero_f c.requires.0, c.requires.1)

pub returns : goal.returns
returns c = vector_is c.args.d c.args.from c.args.s.now _ c.requires.0 c.floats_at.ensures
