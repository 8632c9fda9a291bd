-- `inner::count` meets its contract: what is counted, and the size of what is left, make the size. Assumes nothing.
use Rattle.std.proofs.Common.{◌≡◌, arith, length, drop}
use lib.Count.{ones-le}
use lib.Seq.{drop-length}
use Rattle.bitmaps.specs.Words.{size}
use Rattle.bitmaps.proofs.Size.{size_drop}
use Rattle.bitmaps.proofs.inner.count.Goals as goal

pub loop-word-preserved : goal.loop-word-preserved
loop-word-preserved c =
    let few = ones-le 64 _ (c.type_inv.a c.loop-word.word-index).fits in
    let next = size_drop c.args.a.now c.loop-word.word-index c.loop-word-test.true in
    (omega arith, omega arith)

pub returns : goal.returns
unfolding size
returns c =
    let past : c.loop-word.word-index ≡ length c.args.a.now = omega arith in
    let none : size (drop c.loop-word.word-index c.args.a.now) ≡ 0 = rw (past, drop-length) in
    omega arith
