-- `capi_vectors::bbq_find_face_idx` meets its contract. Assumes nothing.
use mathlib.Core.Path.{◌∙◌, sym}
use Rattle.capi_vectors.proofs.Projections.{face_dims, face_length, face_done}
use Rattle.capi_vectors.proofs.bbq_find_face_idx.Goals as goal

pub returns-then-not-dims_ok : goal.returns-then-not-dims_ok
returns-then-not-dims_ok c = rw c.into.ensures (face_dims c.args.projection.now c.args.out.now (sym c.dims_ok.ensures ∙ c.if-not-dims_ok.true))

pub returns-then-out-ne1 : goal.returns-then-out-ne1
returns-then-out-ne1 c = rw c.into-then-out-ne1.ensures (face_length c.args.projection.now c.args.out.now (sym c.dims_ok.ensures ∙ c.if-not-dims_ok.false) c.if-out-ne1.true)

pub returns : goal.returns
returns c = face_done c.args.projection.now c.args.out.now _ _ (sym c.dims_ok.ensures ∙ c.if-not-dims_ok.false) c.if-out-ne1.false c.find_face_idx-answer.ensures c.put_one.ensures
