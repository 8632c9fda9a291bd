use Prim.Native.Nat.{◌-◌, ◌*◌, ◌≤◌, ◌<◌}
use Rattle.sqrt.proofs.whole_root.Given as goal

abbrev pub invariant-loop-hi : goal.invariant-loop-hi
invariant-loop-hi l = (l.lo < l.hi) × (l.hi ≤ 33554432) × (l.lo * l.lo ≤ l.a) × (l.a < l.hi * l.hi)

abbrev pub decreases-loop-hi : goal.decreases-loop-hi
decreases-loop-hi l = l.hi - l.lo
