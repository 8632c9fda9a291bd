-- `order_free::inner::fill_one` meets its contract, by the contracts of the calls and the theorems. Assumes nothing.
use Rattle.order_free.specs.Order.{addition}
use Rattle.order_free.proofs.Reached.{one_filled}
use Rattle.order_free.proofs.inner.fill_one.Goals as goal

pub returns : goal.returns
returns c =
    let a = c.args in
    one_filled a.g a.bases.now (addition a.i a.v.now) _ _ _ _ _ _ _ c.requires.good c.requires.own c.new_vector_store.ensures c.requires.work c.add_vector.ensures
