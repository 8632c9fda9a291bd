use Rattle.std.proofs.Common.{◌≤◌, length}
use Rattle.console.proofs.run.Given as goal

abbrev pub invariant-loop : goal.invariant-loop
invariant-loop l = (l.place.from ≤ l.place.end) × (l.place.end ≤ length l.input)
