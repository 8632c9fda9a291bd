use mathlib.Core.Path.{◌≡◌}
use mathlib.Core.List.{◌++◌}
use lib.ListN.{take}
use Rattle.basis.specs.Project.{rows_from, projected}
use Rattle.basis.proofs.inner.project.Given as goal

abbrev pub invariant-loop-r : goal.invariant-loop-r
invariant-loop-r l = take l.r l.work ++ rows_from l.basis l.target l.r ≡ projected l.basis l.target
