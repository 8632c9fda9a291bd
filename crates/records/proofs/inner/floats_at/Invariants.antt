use Rattle.std.proofs.Common.{◌≡◌, ◌+◌, ◌*◌, ◌-◌, ◌++◌, take}
use Rattle.records.specs.Fields.{floats_at}
use Rattle.records.proofs.inner.floats_at.Given as goal

abbrev pub invariant-loop-i : goal.invariant-loop-i
invariant-loop-i l = take l.i l.out ++ floats_at (l.i-end - l.i) l.s (l.from + 4 * l.i) ≡ floats_at l.i-end l.s l.from
