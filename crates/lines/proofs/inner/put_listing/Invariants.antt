use Rattle.lines.specs.Lines.{Put, listing}
use Rattle.lines.proofs.inner.put_listing.Given as goal

abbrev pub invariant-loop-i : goal.invariant-loop-i
invariant-loop-i l = Put l.initial.out l.out l.at l.p (listing l.i l.ids l.scores)
