-- `capi_sets::bbq_feed` meets its contract. Assumes nothing.
use mathlib.Core.Path.{sym, ◌∙◌}
use Rattle.capi_sets.specs.Lists.{outs}
use Rattle.capi_sets.proofs.Lists.{room}
use Rattle.capi_sets.proofs.Feeds.{handed, feed_fits, feed_unequal, feed_room, feed_into_lem}
use Rattle.capi_sets.proofs.bbq_feed.Goals as goal

pub returns-then-ids-scores : goal.returns-then-ids-scores
returns-then-ids-scores c =
    let a = c.args in
    let o = outs a.out_ids.now a.out_scores.now a.counts.now in
    rw c.into.ensures (feed_unequal a.k a.ids.now a.scores.now o c.if-ids-scores.true)

pub returns-then-not-room_ok : goal.returns-then-not-room_ok
returns-then-not-room_ok c =
    let a = c.args in
    let o = outs a.out_ids.now a.out_scores.now a.counts.now in
    rw c.into-then-not-room_ok.ensures (feed_room a.k a.ids.now a.scores.now o c.if-ids-scores.false (sym c.room_ok.ensures ∙ c.if-not-room_ok.true))

pub put_fed-requires : goal.put_fed-requires
put_fed-requires c =
    let a = c.args in
    let e = handed _ _ _ _ c.feed_new-answer.ensures c.and.ensures in
    let r = room _ _ _ _ _ (sym c.room_ok.ensures ∙ c.if-not-room_ok.false) in
    record { fits = feed_fits a.k a.ids.now a.scores.now _ _ _ e r.ids r.scores; two = r.counts }

pub returns : goal.returns
returns c =
    let a = c.args in
    let o = outs a.out_ids.now a.out_scores.now a.counts.now in
    feed_into_lem a.k a.ids.now a.scores.now o _ _ c.if-ids-scores.false (sym c.room_ok.ensures ∙ c.if-not-room_ok.false) (handed _ _ _ _ c.feed_new-answer.ensures c.and.ensures) c.put_fed.ensures
