-- `capi_sets::inner::feed_new` meets its contract. Assumes nothing.
use Rattle.std.proofs.Common.{◌≡◌, ◌∙◌, ap, Err, rules}
use Rattle.paper.specs.Refusals.{number_of}
use Rattle.result.specs.Sets.{answer}
use Rattle.capi_sets.proofs.Feeds.{made_refused, made_fed}
use Rattle.capi_sets.proofs.inner.feed_new.Goals as goal

pub returns-in_err-set : goal.returns-in_err-set
returns-in_err-set c =
    let r = c.in_err-set.field-0.0 in
    let e : c.from_residual.result ≡ Err r = search rules in
    rw e (made_refused c.args.k c.args.ids.now c.args.scores.now r c.empty.result (ap (answer (number_of r)) c.empty.ensures ∙ c.in_err-set.ensures))

pub returns : goal.returns
returns c = c.feed_all.ensures ∙ made_fed c.args.k c.args.ids.now c.args.scores.now _ c.in_ok-set.ensures
