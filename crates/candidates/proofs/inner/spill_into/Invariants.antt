use Prim.Native.Nat.{◌-◌}
use mathlib.Core.Path.{◌≡◌}
use mathlib.Core.Bool.{true}
use Rattle.vector.specs.Finite.{all_finite}
use Rattle.faces.specs.Slots.{slots}
use Rattle.candidates.specs.Gathering.{joined}
use Rattle.candidates.proofs.inner.spill_into.Given as goal

abbrev pub invariant-loop-i : goal.invariant-loop-i
invariant-loop-i l =
    (all_finite l.work ≡ true)
    × (joined l.w l.faces l.set (slots (l.picks - l.i) l.work) ≡ joined l.w l.faces l.initial.set (slots l.picks l.initial.work))
