use mathlib.Core.Path.{◌≡◌}
use Prim.Native.Nat.{suc, ◌-◌, ◌<◌}
use native.Mathlib.Omega.{arith}
use Rattle.quantization.proofs.Bytes.{word_step, word_fits, seven}
use Rattle.quantization.proofs.inner.get_le.Goals as goal
use Rattle.quantization.proofs.inner.get_le.Goals.{In-loop-j}

-- at most seven bytes are read so far
few : (c : In-loop-j) → c.loop-j.r < 72057594037927936
few c = seven c.loop-j.r (c.args.size - c.loop-j.j) c.loop-j.invariant.1 (omega arith)

pub overflow_mul-r : goal.overflow_mul-r
overflow_mul-r c = omega (arith, few (goal.at.overflow_mul-r c).In-loop-j)

pub overflow_add-r : goal.overflow_add-r
overflow_add-r c = omega (arith, few (goal.at.overflow_add-r c).In-loop-j)

pub loop-j-preserved : goal.loop-j-preserved
loop-j-preserved c =
    let e : c.args.size - (c.loop-j.j - 1) ≡ suc (c.args.size - c.loop-j.j) = omega arith in (
      omega (arith, word_step c.args.s.now c.args.at c.loop-j.j c.args.size (omega arith) (omega arith)),
      rw e (word_fits c.loop-j.r c.from.result (c.args.size - c.loop-j.j) c.loop-j.invariant.1 (omega arith)),
    )
