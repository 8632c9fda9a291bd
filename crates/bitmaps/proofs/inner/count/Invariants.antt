use Rattle.std.proofs.Common.{◌≡◌, ◌+◌, ◌*◌, ◌≤◌, drop}
use Rattle.bitmaps.specs.Words.{size}
use Rattle.bitmaps.proofs.inner.count.Given as goal

abbrev pub invariant-loop-word : goal.invariant-loop-word
invariant-loop-word l = (l.n ≤ 64 * l.word-index) × (l.n + size (drop l.word-index l.a) ≡ size l.a)
