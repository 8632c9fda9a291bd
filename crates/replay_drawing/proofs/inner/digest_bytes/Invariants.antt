use Rattle.std.proofs.Common.{◌≡◌, drop}
use Rattle.replay_drawing.specs.Digests.{digest_of}
use Rattle.replay_drawing.proofs.inner.digest_bytes.Given as goal

abbrev pub invariant-loop-b : goal.invariant-loop-b
invariant-loop-b l = digest_of l.h (drop l.b-index l.bytes) ≡ digest_of 1 l.bytes
