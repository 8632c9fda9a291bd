use Prim.Native.Nat.{ℕ, ◌<◌}
use mathlib.Core.Path.{◌≡◌}
use mathlib.Core.Bool.{true}
use lib.ListN.{length, get_or}
use Rattle.basis.specs.Bases.{projections_finite}
use Rattle.adding.specs.Adding.{face_slot}
use Rattle.adding.proofs.slots_of.Given as goal

abbrev pub invariant-loop-b : goal.invariant-loop-b
invariant-loop-b l =
    (length l.work ≡ l.fn.g.d) × (length l.slots ≡ 32) × (projections_finite l.fn.g.d l.bases l.v l.b ≡ true) × ((j : ℕ) → j < l.b → get_or l.slots j 0 ≡ face_slot l.fn.g.d l.bases l.v j)
