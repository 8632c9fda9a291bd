use native.Mathlib.Omega.{arith}
use Prim.Native.Nat.{◌+◌, ◌*◌, ◌≤◌}
use Rattle.steps.proofs.Room.{basis_room}
use Rattle.steps.proofs.Cases.{basis_part, basis_is}
use Rattle.steps.proofs.inner.set_basis.Goals as goal

pub overflow_mul-a-2 : goal.overflow_mul-a-2
overflow_mul-a-2 c = omega (arith, basis_room c.args.b c.args.g.n c.args.g.d c.requires.1 c.requires.0.n c.requires.0.d)

pub overflow_add-e : goal.overflow_add-e
overflow_add-e c = omega (arith, basis_room c.args.b c.args.g.n c.args.g.d c.requires.1 c.requires.0.n c.requires.0.d)

pub offset_bounds-bases-a : goal.offset_bounds-bases-a
offset_bounds-bases-a c = omega (arith, basis_room c.args.b c.args.g.n c.args.g.d c.requires.1 c.requires.0.n c.requires.0.d)

pub slice_bounds-floats_at-end : goal.slice_bounds-floats_at-end
slice_bounds-floats_at-end c = omega (arith, basis_room c.args.b c.args.g.n c.args.g.d c.requires.1 c.requires.0.n c.requires.0.d, c.requires.3)

pub floats_at-requires : goal.floats_at-requires
floats_at-requires c =
    let r : c.args.b * (c.args.g.d * c.args.g.d) + c.args.g.d * c.args.g.d ≤ 256 = basis_room c.args.b c.args.g.n c.args.g.d c.requires.1 c.requires.0.n c.requires.0.d in
    omega (arith, basis_part c.args.bases.now (c.args.b * (c.args.g.d * c.args.g.d)) (c.args.g.d * c.args.g.d) (omega (arith, c.requires.3)), c.requires.2)

pub returns : goal.returns
returns c =
    let r : c.args.b * (c.args.g.d * c.args.g.d) + c.args.g.d * c.args.g.d ≤ 256 = basis_room c.args.b c.args.g.n c.args.g.d c.requires.1 c.requires.0.n c.requires.0.d in
    basis_is c.args.bases.now (c.args.b * (c.args.g.d * c.args.g.d)) (c.args.g.d * c.args.g.d) c.args.s.now _ (omega (arith, c.requires.3)) c.floats_at.ensures
