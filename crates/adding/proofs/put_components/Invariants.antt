use mathlib.Core.Path.{◌≡◌}
use lib.ListN.{take}
use lib.Seq.{sets}
use Rattle.quantization.specs.Stored.{lower_bytes}
use Rattle.adding.proofs.put_components.Given as goal

abbrev pub invariant-loop-i : goal.invariant-loop-i
invariant-loop-i l = l.vectors ≡ sets l.initial.vectors l.at (lower_bytes l.mode (take l.i l.work))
