use mathlib.Core.Path.{◌≡◌}
use Prim.Native.Nat.{◌+◌, ◌-◌, ◌^◌, ◌<◌}
use Rattle.quantization.specs.Bytes.{le_word}
use Rattle.quantization.proofs.inner.get_le.Given as goal

-- r is the number of the bytes from j on
abbrev pub invariant-loop-j : goal.invariant-loop-j
invariant-loop-j l = (l.r ≡ le_word l.s (l.at + l.j) (l.size - l.j)) × (l.r < 256 ^ (l.size - l.j))
