-- `capi_sets::bbq_counting_or` meets its contract. Assumes nothing.
use mathlib.Core.Path.{◌∙◌, sym}
use Rattle.capi_sets.proofs.Layers.{or_shape, or_length, or_done}
use Rattle.capi_sets.proofs.bbq_counting_or.Goals as goal

pub returns-then-not-layers_ok : goal.returns-then-not-layers_ok
returns-then-not-layers_ok c = rw c.into.ensures (or_shape c.args.cap c.args.n c.args.layers.now c.args.set.now c.args.dropped.now (sym c.layers_ok.ensures ∙ c.if-not-layers_ok.true))

pub returns-then-dropped-ne1 : goal.returns-then-dropped-ne1
returns-then-dropped-ne1 c = rw c.into-then-dropped-ne1.ensures (or_length c.args.cap c.args.n c.args.layers.now c.args.set.now c.args.dropped.now (sym c.layers_ok.ensures ∙ c.if-not-layers_ok.false) c.if-dropped-ne1.true)

pub returns : goal.returns
returns c = or_done c.args.cap c.args.n c.args.layers.now c.args.set.now c.args.dropped.now _ _ _ _ (sym c.layers_ok.ensures ∙ c.if-not-layers_ok.false) c.if-dropped-ne1.false c.or-answer.ensures c.put_one.ensures
