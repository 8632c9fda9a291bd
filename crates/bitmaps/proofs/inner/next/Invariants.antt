use Rattle.std.proofs.Common.{◌≡◌, ℕ, ◌*◌, ◌≤◌, ◌<◌}
use Rattle.bitmaps.specs.Words.{has}
use Rattle.bitmaps.proofs.inner.next.Given as goal

abbrev pub invariant-loop-i : goal.invariant-loop-i
invariant-loop-i l = (j : ℕ) → l.from ≤ j → j < l.i * 64 → has l.a j ≡ 0
