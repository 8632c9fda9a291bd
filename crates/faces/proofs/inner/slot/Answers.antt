-- `faces::inner::slot` meets its contract. Assumes nothing.
use Rattle.faces.proofs.Picks.{slot_at}
use Rattle.faces.proofs.inner.slot.Goals as goal

pub returns : goal.returns
returns c = (slot_at c.args.work.now c.best_index-b.result c.best_index-b.ensures.1 c.slot_of.result c.slot_of.ensures.0, c.slot_of.ensures.1)
