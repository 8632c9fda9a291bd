use mathlib.Core.Path.{◌≡◌}
use lib.ListN.{length}
use Rattle.result.specs.Places.{entries}
use Rattle.result.specs.Sets.{feed_all_of}
use Rattle.capi_sets.proofs.Feeds.{rest}
use Rattle.capi_sets.proofs.inner.feed_all.Given as goal

abbrev pub invariant-loop-i : goal.invariant-loop-i
invariant-loop-i l = feed_all_of l.set (rest l.i l.ids l.scores) ≡ feed_all_of l.initial.set (entries (length l.ids) l.ids l.scores)
