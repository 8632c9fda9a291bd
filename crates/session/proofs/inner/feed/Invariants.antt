use mathlib.Core.Path.{◌≡◌}
use Prim.Native.Nat.{◌-◌}
use lib.ListN.{length}
use Rattle.steps.specs.Memory.{Memory, memory_of}
use Rattle.steps.specs.Steps.{state_of}
use Rattle.session.proofs.Feeds.{Going}
use Rattle.session.proofs.inner.feed.Given as goal

abbrev pub invariant-loop-out : goal.invariant-loop-out
invariant-loop-out l = Going l.input (state_of l.initial.g (memory_of l.initial.bases l.initial.faces l.initial.marks l.initial.vectors)) l.initial.out l.i l.p (state_of l.g (memory_of l.bases l.faces l.marks l.vectors)) l.out × Memory (length l.bases) (length l.faces) (length l.marks) (length l.vectors) × (length l.out ≡ length l.initial.out)

abbrev pub decreases-loop-out : goal.decreases-loop-out
decreases-loop-out l = length l.input - l.i
