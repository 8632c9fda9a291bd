use Prim.Native.Nat.{◌-◌, ◌≤◌}
use mathlib.Core.Path.{◌≡◌}
use mathlib.Core.List.{◌++◌}
use lib.ListN.{length, take}
use Rattle.basis.specs.Project.{rows_from, projected}
use Rattle.basis.proofs.inner.rows_by_eight.Given as goal

abbrev pub invariant-loop-r : goal.invariant-loop-r
invariant-loop-r l = (length l.work ≡ length l.target) × (l.r ≤ length l.target) × (take l.r l.work ++ rows_from l.basis l.target l.r ≡ projected l.basis l.target)

abbrev pub decreases-loop-r : goal.decreases-loop-r
decreases-loop-r l = length l.target - l.r
