use mathlib.Core.Path.{◌≡◌}
use Prim.Native.Nat.{◌-◌, ◌*◌}
use lib.Seq.{sets}
use Rattle.paper.specs.Geometry.{comp_size}
use Rattle.quantization.specs.Stored.{components}
use Rattle.quantization.proofs.unmarshal.Given as goal

-- storing the components that are left gives what storing all of them gave
abbrev pub invariant-loop-i : goal.invariant-loop-i
invariant-loop-i l =
    sets l.out l.i (components l.mode l.array (l.i * comp_size l.mode) (l.n - l.i)) ≡ sets l.initial.out 0 (components l.mode l.array 0 l.n)
