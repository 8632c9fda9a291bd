-- `inner::top_layer` meets its contract: the answer lies below layer i. Assumes nothing.
use Rattle.std.proofs.Common.{◌≡◌, sym, ◌∙◌, arith}
use Rattle.counting_bitmap.specs.TopLayer.{top_of}
use Rattle.counting_bitmap.proofs.Highest.{top_hit, top_miss}
use Rattle.counting_bitmap.proofs.inner.top_layer.Goals as goal

pub returns-then-search_k-count : goal.returns-then-search_k-count
returns-then-search_k-count c =
    sym (c.loop-i.invariant ∙ top_hit c.loop-i.i _ c.args.layers.now _ _ c.loop-i-test.true c.layer.ensures (omega arith))

pub loop-i-preserved : goal.loop-i-preserved
loop-i-preserved c = c.loop-i.invariant ∙ top_miss c.loop-i.i _ c.args.layers.now _ _ c.loop-i-test.true c.layer.ensures (omega arith)

pub returns : goal.returns
unfolding top_of
returns c =
    let z : c.loop-i.i ≡ 0 = omega arith in
    sym (c.loop-i.invariant ∙ rw z)
