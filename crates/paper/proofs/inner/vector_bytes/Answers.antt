use native.Mathlib.Omega.{arith}
use native.Mathlib.Nat.{mul-le-mul}
use Prim.Native.Nat.{◌≤◌}
use Rattle.paper.proofs.GeometryFacts.{comp_le}
use Rattle.paper.proofs.inner.vector_bytes.Goals as goal

pub overflow_mul-result : goal.overflow_mul-result
overflow_mul-result c =
    let s : c.component_size.result ≤ 4 = rw c.component_size.ensures (comp_le _) in
    omega (arith, mul-le-mul s c.requires.0)

pub overflow_mul-result-2 : goal.overflow_mul-result-2
overflow_mul-result-2 c =
    let s : c.component_size.result ≤ 4 = rw c.component_size.ensures (comp_le _) in
    omega (arith, mul-le-mul c.requires.1 (mul-le-mul s c.requires.0))

pub returns : goal.returns
returns c = rw c.component_size.ensures
