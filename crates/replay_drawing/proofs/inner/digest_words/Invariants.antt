use Rattle.std.proofs.Common.{◌≡◌, drop}
use Rattle.replay_drawing.specs.Digests.{digest_of, halves}
use Rattle.replay_drawing.proofs.inner.digest_words.Given as goal

abbrev pub invariant-loop-w : goal.invariant-loop-w
invariant-loop-w l = digest_of l.h (halves (drop l.w-index l.words)) ≡ digest_of 1 (halves l.words)
