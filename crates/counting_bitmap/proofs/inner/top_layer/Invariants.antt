use mathlib.Core.Path.{◌≡◌}
use Rattle.counting_bitmap.specs.TopLayer.{top_of}
use Rattle.counting_bitmap.proofs.inner.top_layer.Given as goal

abbrev pub invariant-loop-i : goal.invariant-loop-i
invariant-loop-i l = (top_of l.n l.w l.layers l.search_k ≡ top_of l.i l.w l.layers l.search_k)
