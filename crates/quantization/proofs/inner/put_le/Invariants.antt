use Prim.Native.Nat.{◌+◌, ◌-◌}
use mathlib.Core.Path.{◌≡◌}
use lib.Seq.{sets}
use Rattle.quantization.specs.Bytes.{le_bytes}
use Rattle.quantization.proofs.inner.put_le.Given as goal

-- storing the bytes that are left gives what storing all of them gave
abbrev pub invariant-loop-j : goal.invariant-loop-j
invariant-loop-j l = sets l.out (l.at + l.j) (le_bytes (l.size - l.j) l.rest) ≡ sets l.initial.out l.at (le_bytes l.size l.n)
