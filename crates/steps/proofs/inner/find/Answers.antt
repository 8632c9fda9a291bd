use mathlib.Core.Path.{sym}
use native.Mathlib.Omega.{arith}
use Prim.Native.Nat.{◌*◌, ◌/◌}
use lib.Seq.{length-take-le}
use Rattle.steps.specs.Memory.{memory_of, zero_f}
use Rattle.steps.proofs.Room.{taken, few_words, few_layers}
use Rattle.steps.proofs.Cases.{found_as}
use Rattle.steps.proofs.inner.find.Goals as goal

pub overflow_mul-nl : goal.overflow_mul-nl
overflow_mul-nl c = omega (arith, few_layers c.args.g.n c.args.g.cap c.requires.0.n c.requires.0.cap)

pub slice_bounds-find_front-end : goal.slice_bounds-find_front-end
slice_bounds-find_front-end c = sym (length-take-le c.args.g.d c.vector_of-v.result (omega (arith, c.vector_of-v.ensures.0, c.requires.0.d)))

pub slice_bounds-find_front-end-2 : goal.slice_bounds-find_front-end-2
slice_bounds-find_front-end-2 c = taken c.args.g.d 8 zero_f c.requires.0.d

pub slice_bounds-layers-end : goal.slice_bounds-layers-end
slice_bounds-layers-end c = few_layers c.args.g.n c.args.g.cap c.requires.0.n c.requires.0.cap

pub slice_bounds-find_front-end-3 : goal.slice_bounds-find_front-end-3
slice_bounds-find_front-end-3 c = taken (c.args.g.n * (c.args.g.cap / 64)) 16 0 (few_layers c.args.g.n c.args.g.cap c.requires.0.n c.requires.0.cap)

pub slice_bounds-find_front-end-4 : goal.slice_bounds-find_front-end-4
slice_bounds-find_front-end-4 c = taken (c.args.g.cap / 64) 4 0 (few_words c.args.g.cap c.requires.0.cap)

pub returns-clause-found : goal.returns-clause-found
returns-clause-found c =
    found_as c.args.s.now c.args.g c.args.query.k c.args.query.search_k c.args.query.spill (memory_of c.args.bases.now c.args.faces.now c.args.marks.now c.args.vectors.now) _ _ c.requires.0 c.vector_of-v.ensures.1 c.find_front.ensures.found
