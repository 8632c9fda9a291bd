-- `basis::inner::block` meets its contract. Assumes nothing.
use Prim.Native.Nat.{◌+◌}
use mathlib.Core.Path.{◌∙◌}
use native.Mathlib.Omega.{arith}
use lib.ListN.{length}
use Rattle.basis.proofs.Sides.{four_next}
use Rattle.basis.proofs.inner.block.Goals as goal

pub returns : goal.returns
returns c =
    four_next c.args.target.now c.args.basis.now c.args.at (length c.args.target.now) c.args.t c.column-t1.result c.args.i (c.args.i + 1) (omega arith) (omega arith) (omega arith) c.column-t1.ensures
    ∙ (four_next c.args.target.now c.args.basis.now c.args.at (length c.args.target.now) c.column-t1.result c.column-t2.result (c.args.i + 1) (c.args.i + 2) (omega arith) (omega arith) (omega arith) c.column-t2.ensures
    ∙ (four_next c.args.target.now c.args.basis.now c.args.at (length c.args.target.now) c.column-t2.result c.column-t3.result (c.args.i + 2) (c.args.i + 3) (omega arith) (omega arith) (omega arith) c.column-t3.ensures
    ∙ four_next c.args.target.now c.args.basis.now c.args.at (length c.args.target.now) c.column-t3.result c.column.result (c.args.i + 3) (c.args.i + 4) (omega arith) (omega arith) (omega arith) c.column.ensures))
