use Rattle.std.proofs.Common.{◌≡◌}
use Rattle.result.specs.Ranked.{entry, larger, placed}
use Rattle.result.specs.Places.{entries}
use Rattle.result.proofs.Walk.{walked}
use Rattle.result.proofs.inner.place_of.Given as goal

abbrev pub invariant-loop-insert : goal.invariant-loop-insert
invariant-loop-insert l = walked larger (entry l.id l.similarity) l.insert (entries l.len l.ids l.sims) ≡ placed larger (entry l.id l.similarity) (entries l.len l.ids l.sims)
