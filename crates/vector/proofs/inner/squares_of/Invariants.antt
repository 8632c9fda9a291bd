use Rattle.std.proofs.Common.{◌≡◌, drop}
use Rattle.vector.specs.Fold.{fold2, squares_of, dist_step}
use Rattle.vector.proofs.inner.squares_of.Given as goal

abbrev pub invariant-loop-i : goal.invariant-loop-i
invariant-loop-i l = fold2 dist_step l.sum (drop l.i l.vec) (drop l.i l.other) ≡ squares_of l.vec l.other
