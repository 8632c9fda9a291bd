-- `order_free::inner::two_deals` meets its contract, by the contracts of the calls and the theorems. Assumes nothing.
use Rattle.order_free.specs.Order.{addition}
use Rattle.order_free.proofs.Reached.{either_deal}
use Rattle.order_free.proofs.inner.two_deals.Goals as goal

pub returns : goal.returns
returns c =
    let a = c.args in
    either_deal a.g a.bases.now c.requires.first.good (addition a.i a.v.now) (addition a.j a.u.now) c.requires.apart _ _ _ _ _ c.fill_one.ensures c.fill_one-2.ensures c.merge-merged.ensures c.fill_two.ensures
