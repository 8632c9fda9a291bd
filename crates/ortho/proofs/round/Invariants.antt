use Rattle.std.proofs.Common.{◌≡◌, ◌-◌}
use Rattle.ortho.specs.Ortho.{round_of}
use Rattle.ortho.proofs.round.Given as goal

abbrev pub invariant-loop-i : goal.invariant-loop-i
invariant-loop-i l = round_of l.d (l.d - l.i) l.i l.out ≡ round_of l.d l.d 0 l.initial.out
