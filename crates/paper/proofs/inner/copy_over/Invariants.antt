use Rattle.std.proofs.Common.{◌≡◌, length, take}
use Rattle.paper.proofs.inner.copy_over.Given as goal

abbrev pub invariant-loop-i : goal.invariant-loop-i
invariant-loop-i g l = (length l.to ≡ length l.from) × (take l.i l.to ≡ take l.i l.from)
