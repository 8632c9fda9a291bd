use mathlib.Core.Path.{sym, ap, ◌∙◌}
use native.Mathlib.Omega.{arith}
use lib.ListN.{take, replicate}
use lib.Seq.{length-take-le}
use Rattle.steps.specs.Memory.{memory_of, zero_f, added_by, added_of}
use Rattle.steps.proofs.Room.{taken, front_same}
use Rattle.steps.proofs.inner.add.Goals as goal

pub slice_bounds-add_front-end : goal.slice_bounds-add_front-end
slice_bounds-add_front-end c = sym (length-take-le c.args.g.d c.vector_of-v.result (omega (arith, c.vector_of-v.ensures.0, c.requires.0.d)))

pub slice_bounds-add_front-end-2 : goal.slice_bounds-add_front-end-2
slice_bounds-add_front-end-2 c = taken c.args.g.d 8 zero_f c.requires.0.d

pub returns : goal.returns
unfolding added_of
returns c = ap (λ x. added_by x (replicate c.args.g.d zero_f) c.args.g c.args.id (memory_of c.args.bases.now c.args.faces.now c.args.marks.now c.args.vectors.now)) (sym c.vector_of-v.ensures.1) ∙ ap (λ x. added_by (take c.args.g.d c.vector_of-v.result) x c.args.g c.args.id (memory_of c.args.bases.now c.args.faces.now c.args.marks.now c.args.vectors.now)) (sym (front_same c.args.g.d 8 zero_f c.requires.0.d)) ∙ c.add_front.ensures
