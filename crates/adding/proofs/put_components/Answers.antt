-- `adding::put_components` meets its contract: after i turns the first i components are stored. Assumes nothing.
use mathlib.Core.Path.{◌∙◌}
use Rattle.adding.proofs.Turns.{lowered_more, lowered_none}
use Rattle.adding.proofs.put_components.Goals as goal

pub loop-i-init : goal.loop-i-init
loop-i-init c = lowered_none _ _ _ c.args.work.now

pub loop-i-preserved : goal.loop-i-preserved
loop-i-preserved c =
    let a = c.args in
    c.put_component.ensures ∙ rw (c.loop-i.invariant, c.component_size-size.ensures) (lowered_more a.mode a.vectors.now a.at a.work.now c.loop-i.i _ c.loop-i-test.true)
