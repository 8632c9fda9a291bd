-- `order_free::inner::two_orders` meets its contract, by the contracts of the calls and the theorems. Assumes nothing.
use Rattle.order_free.specs.Order.{addition}
use Rattle.order_free.proofs.Reached.{either_order}
use Rattle.order_free.proofs.inner.two_orders.Goals as goal

pub returns : goal.returns
returns c =
    let a = c.args in
    either_order a.g a.bases.now (addition a.i a.v.now) (addition a.j a.u.now) c.requires.apart _ _ c.fill_two.ensures c.fill_two-2.ensures
