use Prim.Native.Nat.{◌-◌, ◌*◌}
use lib.ListN.{length}
use Rattle.result.specs.Puts.{set_of}
use Rattle.backend_memory.proofs.Turns.{Ranked}
use Rattle.backend_memory.proofs.inner.rank.Given as goal

abbrev pub invariant-loop-id : goal.invariant-loop-id
invariant-loop-id l = Ranked l.mode l.k l.ids l.marks l.vectors l.target (set_of l.list l.sims l.len l.k l.checked) l.at l.bar

abbrev pub decreases-loop-id : goal.decreases-loop-id
decreases-loop-id l = length l.ids * 64 - l.at
