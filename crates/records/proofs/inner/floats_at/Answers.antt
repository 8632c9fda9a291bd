use Rattle.std.proofs.Common.{◌≡◌, sym, ◌∙◌, length, arith}
use Rattle.records.proofs.Floats.{floats_turn, floats_end}
use Rattle.records.proofs.inner.floats_at.Goals as goal

pub loop-i-preserved : goal.loop-i-preserved
loop-i-preserved c =
    rw (c.of_bits.ensures, c.u32_at.ensures) (floats_turn _ _ _ _ c.loop-i.out (omega arith) c.loop-i-test.true ∙ c.loop-i.invariant)

pub returns : goal.returns
returns c =
    let e : c.loop-i.i ≡ length c.args.out.now = omega arith in
    sym (floats_end _ _ _ c.loop-i.out (omega arith)) ∙ rw e at c.loop-i.invariant
