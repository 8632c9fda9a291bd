use native.Mathlib.Omega.{arith}
use native.Mathlib.Nat.{mul-le-mul, le_refl}
use Prim.Native.Nat.{◌/◌, ◌≤◌}
use Rattle.paper.proofs.inner.face_words.Goals as goal

pub overflow_mul-result-2 : goal.overflow_mul-result-2
overflow_mul-result-2 c = omega (arith, mul-le-mul c.requires.1 (mul-le-mul (le_refl 2) c.requires.0))

pub overflow_mul-result-3 : goal.overflow_mul-result-3
overflow_mul-result-3 c =
    let w : c.args.g.cap / 64 ≤ 1024 = omega arith in
    omega (arith, mul-le-mul (mul-le-mul c.requires.1 (mul-le-mul (le_refl 2) c.requires.0)) w)
