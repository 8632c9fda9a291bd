use mathlib.Core.Path.{◌≡◌}
use Prim.Native.Nat.{◌-◌, ◌≤◌}
use lib.ListN.{length, drop}
use Rattle.lines.specs.Lines.{trimmed}
use Rattle.lines.proofs.inner.trimmed_part.Given as goal

-- the zeros so far are not the last byte, and what is left has the same part
abbrev pub invariant-loop-i : goal.invariant-loop-i
invariant-loop-i l = (l.i ≤ length l.text - 1) × (trimmed (drop l.i l.text) ≡ trimmed l.text)
