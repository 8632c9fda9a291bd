use mathlib.Core.Path.{◌≡◌}
use lib.ListN.{drop}
use Rattle.bitmaps.specs.Words.{size, shared}
use Rattle.merging.proofs.share_nothing.Given as goal

abbrev pub invariant-loop-i : goal.invariant-loop-i
invariant-loop-i l = size (shared l.a l.b) ≡ size (drop l.i (shared l.a l.b))
