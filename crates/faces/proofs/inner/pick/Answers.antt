-- `faces::inner::pick` meets its contract. Assumes nothing.
use Rattle.faces.proofs.Picks.{slot_at, picked_at}
use Rattle.faces.proofs.inner.pick.Goals as goal

pub returns : goal.returns
returns c = (
  slot_at c.args.work.now c.best_index-b.result c.best_index-b.ensures.1 c.slot_of-s.result c.slot_of-s.ensures.0,
  c.slot_of-s.ensures.1,
  picked_at c.args.work.now c.best_index-b.result c.best_index-b.ensures.1,
)
