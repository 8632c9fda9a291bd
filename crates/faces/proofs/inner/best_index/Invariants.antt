use Rattle.faces.proofs.First.{Best}
use Rattle.faces.proofs.inner.best_index.Given as goal

abbrev pub invariant-loop-i : goal.invariant-loop-i
invariant-loop-i l = Best l.projection l.best l.i
