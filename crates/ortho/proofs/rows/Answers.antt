-- `ortho::rows` meets its contract. Assumes nothing.
use Rattle.std.proofs.Common.{◌*◌, refl, sym, ◌∙◌, arith}
use Rattle.ortho.proofs.Loops.{told_none, rows_more, rows_fail, rows_end, row_before, row_within}
use Rattle.ortho.proofs.rows.Goals as goal

pub overflow_mul-a : goal.overflow_mul-a
overflow_mul-a c = omega (arith, row_within c.args.d c.args.i c.requires.1)

pub overflow_mul-j : goal.overflow_mul-j
overflow_mul-j c = omega (arith, row_within c.args.d c.loop-j.j c.loop-j-test.true)

pub pair-requires : goal.pair-requires
pair-requires c = omega (arith, row_within c.args.d c.loop-j.j c.loop-j-test.true, row_before c.args.d c.args.i c.loop-j.j (omega arith))

pub returns-in_err-pair : goal.returns-in_err-pair
returns-in_err-pair c =
    sym c.loop-j.invariant
    ∙ rows_fail c.args.d c.args.i c.loop-j.j c.loop-j.out (c.args.i * c.args.d) refl c.loop-j-test.true c.in_err-pair.ensures
    ∙ sym (told_none _ _ c.from_residual.ensures.0)

pub loop-j-preserved : goal.loop-j-preserved
loop-j-preserved c =
    sym (rows_more c.args.d c.args.i c.loop-j.j c.loop-j.out (c.args.i * c.args.d) refl c.loop-j-test.true _ c.in_ok-pair.ensures)
    ∙ c.loop-j.invariant

pub returns : goal.returns
returns c = sym c.loop-j.invariant ∙ rows_end c.args.d c.args.i c.loop-j.j c.loop-j.out c.loop-j-test.false
