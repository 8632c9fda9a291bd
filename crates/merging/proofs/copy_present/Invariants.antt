use Prim.Native.Nat.{◌*◌, ◌-◌, ◌≤◌}
use mathlib.Core.Path.{◌≡◌}
use lib.ListN.{length}
use Rattle.merging.specs.Merging.{copied}
use Rattle.merging.proofs.copy_present.Given as goal

abbrev pub invariant-loop-i : goal.invariant-loop-i
invariant-loop-i l = (l.at ≤ length l.marks * 64) × (l.vectors ≡ copied l.size l.at l.marks l.from l.initial.vectors)

abbrev pub decreases-loop-i : goal.decreases-loop-i
decreases-loop-i l = length l.marks * 64 - l.at
