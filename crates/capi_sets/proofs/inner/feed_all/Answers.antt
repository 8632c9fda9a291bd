-- `capi_sets::inner::feed_all` meets its contract: after i turns what is left to feed gives the same. Assumes nothing.
use Rattle.std.proofs.Common.{◌≡◌, ◌∙◌, Err, rules}
use Rattle.capi_sets.proofs.Feeds.{feed_ends, feed_goes}
use Rattle.capi_sets.proofs.inner.feed_all.Goals as goal

pub returns-in_err-add_result : goal.returns-in_err-add_result
returns-in_err-add_result c =
    let e : c.from_residual.result ≡ Err c.in_err-add_result.field-0.0 = search rules in
    let f = c.in_err-add_result.ensures in
    rw e (feed_ends c.loop-i.set c.loop-i.i c.args.ids.now c.args.scores.now _ _ c.loop-i-test.true c.requires _ _ f.0 f.1 ∙ c.loop-i.invariant)

pub loop-i-preserved : goal.loop-i-preserved
loop-i-preserved c =
    let f = c.in_ok-add_result.ensures in
    feed_goes c.loop-i.set c.loop-i.i c.args.ids.now c.args.scores.now _ _ c.loop-i-test.true c.requires _ f.0 f.1 ∙ c.loop-i.invariant
