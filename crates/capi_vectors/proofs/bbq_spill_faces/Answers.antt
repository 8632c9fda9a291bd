-- `capi_vectors::bbq_spill_faces` meets its contract. Assumes nothing.
use mathlib.Core.Path.{◌∙◌, sym}
use native.Mathlib.Omega.{arith}
use Rattle.capi_vectors.proofs.Projections.{dims_high, spill_dims, spill_length, count_fits, spill_refused, spill_done}
use Rattle.capi_vectors.proofs.bbq_spill_faces.Goals as goal

pub returns-then-not-dims_ok : goal.returns-then-not-dims_ok
returns-then-not-dims_ok c = rw c.into.ensures (spill_dims c.args.spill c.args.projection.now c.args.out.now (sym c.dims_ok.ensures ∙ c.if-not-dims_ok.true))

pub returns-then-out-projection : goal.returns-then-out-projection
returns-then-out-projection c = rw c.into-then-out-projection.ensures (spill_length c.args.spill c.args.projection.now c.args.out.now (sym c.dims_ok.ensures ∙ c.if-not-dims_ok.false) c.if-out-projection.true)

pub copy_front-requires : goal.copy_front-requires
copy_front-requires c =
    let n = count_fits c.args.spill c.args.projection.now c.args.out.now _ _ c.in-Ok.ensures in
    let d = dims_high _ (sym c.dims_ok.ensures ∙ c.if-not-dims_ok.false) in
    (omega (arith, n, d), omega (arith, n))

pub returns-in-Ok : goal.returns-in-Ok
returns-in-Ok c =
    spill_done c.args.spill c.args.projection.now c.args.out.now _ _ _ (sym c.dims_ok.ensures ∙ c.if-not-dims_ok.false) c.if-out-projection.false c.in-Ok.ensures c.copy_front.ensures

pub returns-in-Err : goal.returns-in-Err
returns-in-Err c =
    rw c.into-in-Err.ensures (spill_refused c.args.spill c.args.projection.now c.args.out.now _ _ (sym c.dims_ok.ensures ∙ c.if-not-dims_ok.false) c.if-out-projection.false c.in-Err.ensures)
