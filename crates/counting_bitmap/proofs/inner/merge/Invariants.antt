use Prim.Native.Nat.{◌*◌}
use mathlib.Core.Path.{◌≡◌}
use lib.ListN.{length}
use Rattle.counting_bitmap.specs.Layers.{merged, fallen}
use Rattle.counting_bitmap.proofs.inner.merge.Given as goal

abbrev pub invariant-loop-i : goal.invariant-loop-i
invariant-loop-i l =
    (l.layers ≡ merged l.i l.w l.initial.layers l.initial.cur) × (l.cur ≡ fallen l.i l.w l.initial.layers l.initial.cur)
    × (length l.layers ≡ l.n * l.w) × (length l.cur ≡ l.w)
