use Prim.Native.Nat.{◌+◌, ◌*◌}
use mathlib.Core.Path.{◌≡◌}
use lib.ListN.{length, drop}
use Rattle.paper.specs.Geometry.{comp_size}
use Rattle.vector.specs.Fold.{fold2, dist_step, squares_of}
use Rattle.quantization.specs.Stored.{components}
use Rattle.backend_memory.proofs.inner.squares.Given as goal

abbrev pub invariant-loop-x : goal.invariant-loop-x
invariant-loop-x l =
    (l.p ≡ l.at + l.x-index * comp_size l.mode)
    × (fold2 dist_step l.sum (drop l.x-index l.target) (drop l.x-index (components l.mode l.vectors l.at (length l.target))) ≡ squares_of l.target (components l.mode l.vectors l.at (length l.target)))
