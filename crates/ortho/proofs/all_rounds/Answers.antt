-- `ortho::all_rounds` meets its contract. Assumes nothing.
use Rattle.std.proofs.Common.{sym, ◌∙◌}
use Rattle.ortho.proofs.Loops.{told_none, rounds_fail, rounds_more, rounds_end}
use Rattle.ortho.proofs.all_rounds.Goals as goal

pub returns-in_err-round : goal.returns-in_err-round
returns-in_err-round c =
    sym c.loop.invariant ∙ rounds_fail c.args.d c.args.n c.loop.counter c.loop.out c.loop-test.true c.in_err-round.ensures
    ∙ sym (told_none _ _ c.from_residual.ensures.0)

pub loop-preserved : goal.loop-preserved
loop-preserved c =
    sym (rounds_more c.args.d c.args.n c.loop.counter c.loop.out c.loop-test.true _ c.in_ok-round.ensures) ∙ c.loop.invariant

pub returns : goal.returns
returns c = sym c.loop.invariant ∙ rounds_end c.args.d c.args.n c.loop.counter c.loop.out c.loop-test.false
