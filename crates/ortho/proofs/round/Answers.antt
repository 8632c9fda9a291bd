-- `ortho::round` meets its contract. Assumes nothing.
use Rattle.std.proofs.Common.{sym, ◌∙◌, arith}
use Rattle.ortho.proofs.Loops.{told_none, round_fail_1, round_fail_2, round_more, round_end, row_within}
use Rattle.ortho.proofs.round.Goals as goal

pub normalize_row-requires : goal.normalize_row-requires
normalize_row-requires c = omega (arith, row_within c.args.d c.loop-i.i c.loop-i-test.true, c.requires)

pub returns-in_err-normalize_row : goal.returns-in_err-normalize_row
returns-in_err-normalize_row c =
    sym c.loop-i.invariant
    ∙ round_fail_1 c.args.d c.loop-i.i c.loop-i.out c.loop-i-test.true c.in_err-normalize_row.ensures
    ∙ sym (told_none _ _ c.from_residual.ensures.0)

pub returns-in_err-rows : goal.returns-in_err-rows
returns-in_err-rows c =
    sym c.loop-i.invariant
    ∙ round_fail_2 c.args.d c.loop-i.i c.loop-i.out c.loop-i-test.true _ c.in_ok-normalize_row.ensures c.in_err-rows.ensures
    ∙ sym (told_none _ _ c.from_residual-in_err-rows.ensures.0)

pub loop-i-preserved : goal.loop-i-preserved
loop-i-preserved c =
    sym (round_more c.args.d c.loop-i.i c.loop-i.out c.loop-i-test.true _ c.in_ok-normalize_row.ensures _ c.in_ok-rows.ensures)
    ∙ c.loop-i.invariant

pub returns : goal.returns
returns c = sym c.loop-i.invariant ∙ round_end c.args.d c.loop-i.i c.loop-i.out c.loop-i-test.false
