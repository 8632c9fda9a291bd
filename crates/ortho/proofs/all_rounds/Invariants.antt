use Rattle.std.proofs.Common.{◌≡◌, ◌-◌}
use Rattle.ortho.specs.Ortho.{rounds_of}
use Rattle.ortho.proofs.all_rounds.Given as goal

abbrev pub invariant-loop : goal.invariant-loop
invariant-loop l = rounds_of l.d (l.n - l.counter) l.out ≡ rounds_of l.d l.n l.initial.out
