use Prim.Native.Nat.{◌-◌, ◌≤◌}
use mathlib.Core.Path.{◌≡◌}
use lib.ListN.{length}
use Rattle.ortho.proofs.Loops.{reducing}
use Rattle.ortho.proofs.reduce_row.Given as goal

abbrev pub invariant-loop-k : goal.invariant-loop-k
invariant-loop-k l = (length l.out ≡ length l.initial.out) × (l.k ≤ l.d) × (reducing l.a l.b l.dot (l.d - l.k) l.k l.out ≡ reducing l.a l.b l.dot l.d 0 l.initial.out)
