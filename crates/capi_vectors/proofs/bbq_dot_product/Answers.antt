-- `capi_vectors::bbq_dot_product` meets its contract. Assumes nothing.
use Rattle.capi_vectors.proofs.Singles.{one_length, put_done}
use Rattle.capi_vectors.proofs.bbq_dot_product.Goals as goal

pub returns-then-out-ne1 : goal.returns-then-out-ne1
returns-then-out-ne1 c = rw c.into.ensures (one_length _ _ c.args.out.now c.if-out-ne1.true)

pub returns : goal.returns
returns c = put_done _ _ c.args.out.now _ _ _ c.if-out-ne1.false c.dot_product-answer.ensures c.put_one.ensures
