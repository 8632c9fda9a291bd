use Rattle.std.proofs.Common.{◌≡◌, ◌*◌, ◌≤◌, take}
use Rattle.result.specs.Recalls.{pairs_of}
use Rattle.result.proofs.pairs_in.Given as goal

abbrev pub invariant-loop-x : goal.invariant-loop-x
invariant-loop-x l = (l.found ≡ pairs_of (take l.x-index l.a) l.b) × (l.found ≤ 256 * l.x-index)
