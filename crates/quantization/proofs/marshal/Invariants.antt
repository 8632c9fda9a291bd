use mathlib.Core.Path.{◌≡◌}
use Prim.Native.Nat.{◌*◌}
use lib.ListN.{drop}
use lib.Seq.{sets}
use Rattle.paper.specs.Geometry.{comp_size}
use Rattle.quantization.specs.Stored.{lower_bytes}
use Rattle.quantization.proofs.marshal.Given as goal

-- storing the components that are left gives what storing all of them gave
abbrev pub invariant-loop-i : goal.invariant-loop-i
invariant-loop-i l =
    sets l.array (l.i * comp_size l.mode) (lower_bytes l.mode (drop l.i l.v)) ≡ sets l.initial.array 0 (lower_bytes l.mode l.v)
