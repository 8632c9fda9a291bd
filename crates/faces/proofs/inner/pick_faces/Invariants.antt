use Prim.Native.Nat.{◌-◌, ◌≤◌}
use mathlib.Core.Path.{◌≡◌}
use mathlib.Core.Bool.{true}
use mathlib.Core.List.{◌++◌}
use lib.ListN.{length, take, drop}
use Rattle.vector.specs.Finite.{all_finite}
use Rattle.faces.specs.Slots.{faces_of, after_of}
use Rattle.faces.proofs.inner.pick_faces.Given as goal

abbrev pub invariant-loop-k : goal.invariant-loop-k
invariant-loop-k l = (length l.projection ≡ length l.initial.projection) × (length l.out ≡ length l.initial.out) × (l.k ≤ l.n) × (all_finite l.projection ≡ true) × (after_of (l.n - l.k) l.projection ≡ after_of l.n l.initial.projection) × (take l.k l.out ++ faces_of (l.n - l.k) l.projection ≡ faces_of l.n l.initial.projection) × (drop l.k l.out ≡ drop l.k l.initial.out)
