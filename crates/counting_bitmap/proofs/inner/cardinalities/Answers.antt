-- `inner::cardinalities` meets its contract: the first i layers are counted. Assumes nothing.
use Rattle.std.proofs.Common.{refl, ap, ◌∙◌, arith, length-set}
use Rattle.bitmaps.specs.Words.{size}
use Rattle.counting_bitmap.specs.Layers.{counts_of}
use Rattle.counting_bitmap.proofs.Places.{counts_turn}
use Rattle.counting_bitmap.proofs.inner.cardinalities.Goals as goal

pub loop-i-init : goal.loop-i-init
unfolding counts_of
loop-i-init c = (refl, refl)

pub loop-i-preserved : goal.loop-i-preserved
loop-i-preserved c = (
  simp length-set (omega arith),
  counts_turn _ _ c.args.layers.now _ _ (omega arith) c.loop-i.invariant.1 (c.count.ensures ∙ ap size c.layer.ensures),
)
