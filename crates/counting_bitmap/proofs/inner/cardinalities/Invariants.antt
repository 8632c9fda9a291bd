use Prim.Native.Nat.{◌-◌}
use mathlib.Core.Path.{◌≡◌}
use mathlib.Core.List.{◌++◌}
use lib.ListN.{length}
use Rattle.counting_bitmap.specs.Layers.{counts_of, empty}
use Rattle.counting_bitmap.proofs.inner.cardinalities.Given as goal

abbrev pub invariant-loop-i : goal.invariant-loop-i
invariant-loop-i l =
    (length l.counts ≡ 32) × (l.counts ≡ counts_of l.i l.w l.layers ++ empty (32 - l.i))
