use Rattle.std.proofs.Common.{◌≡◌, drop}
use Rattle.vector.specs.Fold.{fold2, dot_of, dot_step}
use Rattle.vector.proofs.inner.dot_of.Given as goal

abbrev pub invariant-loop-i : goal.invariant-loop-i
invariant-loop-i l = fold2 dot_step l.sum (drop l.i l.vec) (drop l.i l.other) ≡ dot_of l.vec l.other
