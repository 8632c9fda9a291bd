use Prim.Native.Nat.{◌+◌, ◌*◌, ◌/◌, ◌^◌, ◌≤◌, ◌<◌}
use mathlib.Core.Logic.{inl, inr}
use native.Mathlib.Omega.{arith}
use Rattle.sqrt.specs.Root.{Near}
use Rattle.sqrt.proofs.Near.{Scaling, scaling_bounds, rounded_near}
use Rattle.sqrt.proofs.rounded_root.Goals as goal
use Rattle.sqrt.proofs.rounded_root.Goals.{Joined-h-eq0, After-whole_root-root, then-h-eq0, else-h-eq0}

-- where the arms meet
scaling : (c : Joined-h-eq0) → Scaling c.args.m c.args.h c.if-h-eq0.scaled
scaling c = elim c.if-h-eq0.branch [ then-h-eq0 w ↦ inl (w.if-h-eq0.true, w.scaled-is) | else-h-eq0 w ↦ inr (w.if-h-eq0.false, w.scaled-is) ]

pub whole_root-root-requires : goal.whole_root-root-requires
whole_root-root-requires c =
    omega (arith, scaling_bounds c.args.m c.args.h c.if-h-eq0.scaled (omega arith) (omega arith) (scaling (goal.at.whole_root-root-requires c).Joined-h-eq0))

-- after the call: the root's bounds, and what is to be returned
near : (c : After-whole_root-root) → (16777216 ≤ c.whole_root-root.result) × (c.whole_root-root.result + 1 < 33554432) × Near (c.args.m * 2 ^ (c.args.h + 24)) ((c.args.h + 1) / 2 * 8388608 + (c.whole_root-root.result + 1) / 2)
near c =
    rounded_near c.args.m c.args.h c.if-h-eq0.scaled (omega arith) (omega arith) (scaling c.before) c.whole_root-root.result
    c.whole_root-root.ensures.0 c.whole_root-root.ensures.1

pub overflow_add-half : goal.overflow_add-half
overflow_add-half c = omega (arith, (near (goal.at.overflow_add-half c).After-whole_root-root).1)

pub overflow_cast-result : goal.overflow_cast-result
overflow_cast-result c = omega (arith, (near (goal.at.overflow_cast-result c).After-whole_root-root).1)

pub overflow_add-result-2 : goal.overflow_add-result-2
overflow_add-result-2 c = omega (arith, (near (goal.at.overflow_add-result-2 c).After-whole_root-root).1)

pub returns : goal.returns
returns c = (omega (arith, (near (goal.at.returns c).After-whole_root-root).1), (near (goal.at.returns c).After-whole_root-root).2)
