-- `capi_sets::bbq_top_k` meets its contract. Assumes nothing.
use mathlib.Core.Path.{◌∙◌, sym}
use Rattle.capi_sets.proofs.Layers.{top_shape, top_length, top_done}
use Rattle.capi_sets.proofs.bbq_top_k.Goals as goal

pub returns-then-not-layers_ok : goal.returns-then-not-layers_ok
returns-then-not-layers_ok c = rw c.into.ensures (top_shape c.args.cap c.args.n c.args.layers.now c.args.search_k c.args.layer.now (sym c.layers_ok.ensures ∙ c.if-not-layers_ok.true))

pub returns-then-layer-ne1 : goal.returns-then-layer-ne1
returns-then-layer-ne1 c = rw c.into-then-layer-ne1.ensures (top_length c.args.cap c.args.n c.args.layers.now c.args.search_k c.args.layer.now (sym c.layers_ok.ensures ∙ c.if-not-layers_ok.false) c.if-layer-ne1.true)

pub returns : goal.returns
returns c = top_done c.args.cap c.args.n c.args.layers.now c.args.search_k c.args.layer.now _ _ (sym c.layers_ok.ensures ∙ c.if-not-layers_ok.false) c.if-layer-ne1.false c.top_k_number-answer.ensures c.put_one.ensures
