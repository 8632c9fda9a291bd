use Rattle.steps.specs.Memory.{memory_of}
use Rattle.steps.proofs.Cases.{add_is}
use Rattle.steps.proofs.inner.add_front.Goals as goal

pub returns : goal.returns
returns c =
    let l = c.parts_of-l.ensures in
    add_is c.args.g (memory_of c.args.bases.now c.args.faces.now c.args.marks.now c.args.vectors.now) _ _ _ _ l.bases l.faces l.marks l.vectors _ c.geometry.ensures _ _ _ _ _ _ _ _ c.add_vector.ensures
