use Rattle.std.proofs.Common.{◌≡◌, ◌+◌, ◌-◌}
use Rattle.ortho.specs.Ortho.{rows_of}
use Rattle.ortho.proofs.rows.Given as goal

abbrev pub invariant-loop-j : goal.invariant-loop-j
invariant-loop-j l = rows_of l.d l.i (l.d - l.j) l.j l.out ≡ rows_of l.d l.i (l.d - (l.i + 1)) (l.i + 1) l.initial.out
