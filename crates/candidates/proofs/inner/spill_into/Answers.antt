-- `candidates::inner::spill_into` meets its contract: what is left to pick gives the whole set. Assumes nothing.
use mathlib.Core.Path.{◌∙◌, ap, sym}
use lib.ListN.{length}
use Rattle.vector.specs.Finite.{all_finite}
use Rattle.faces.proofs.Slots.{finite_picked}
use Rattle.candidates.proofs.Spills.{spill_turn, spill_end}
use Rattle.candidates.proofs.inner.spill_into.Goals as goal

pub loop-i-preserved : goal.loop-i-preserved
loop-i-preserved c =
    let l = c.loop-i in (
      ap all_finite c.pick-slot.ensures.2 ∙ finite_picked l.work l.invariant.0,
      spill_turn c.args.picks l.i (length c.args.set.now) c.pick-slot.result c.args.faces.now l.work c.pick-slot.new.work l.set c.or.new.a c.loop-i-test.true c.pick-slot.ensures.0 c.pick-slot.ensures.2 c.or.ensures ∙ l.invariant.1,
    )

pub returns : goal.returns
returns c =
    let l = c.loop-i in
    sym (spill_end c.args.picks l.i (length c.args.set.now) c.args.faces.now l.work l.set c.loop-i-test.false) ∙ l.invariant.1
