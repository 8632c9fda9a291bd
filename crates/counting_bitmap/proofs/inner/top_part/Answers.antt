-- `inner::top_part` meets its contract: the layer found is within the layers. Assumes nothing.
use Rattle.std.proofs.Common.{◌+◌, ◌*◌, ◌≤◌, sym, ◌∙◌, arith}
use native.Mathlib.Nat.{mul-le-mul_right}
use Rattle.counting_bitmap.proofs.Highest.{top_layer_is}
use Rattle.counting_bitmap.proofs.inner.top_part.Goals as goal

pub layer-requires : goal.layer-requires
layer-requires c =
    let top = top_layer_is _ _ c.args.layers.now c.args.search_k _ (sym c.top_layer.ensures ∙ c.in-Some.is) in
    let below : (c.in-Some.i + 1) * c.args.w ≤ c.args.n * c.args.w = mul-le-mul_right _ (omega arith) in
    omega arith
