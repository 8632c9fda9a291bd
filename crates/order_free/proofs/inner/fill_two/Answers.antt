-- `order_free::inner::fill_two` meets its contract, by the contracts of the calls and the theorems. Assumes nothing.
use mathlib.Core.Path.{◌∙◌}
use Rattle.order_free.specs.Order.{addition}
use Rattle.order_free.proofs.Reached.{two_filled}
use Rattle.order_free.proofs.inner.fill_two.Goals as goal

pub returns : goal.returns
returns c =
    let a = c.args in
    two_filled a.g a.bases.now (addition a.i a.v.now) (addition a.j a.u.now) _ _ _ _ _ (c.fill_one.auto.work ∙ c.requires.work) c.fill_one.ensures c.add_vector.ensures
