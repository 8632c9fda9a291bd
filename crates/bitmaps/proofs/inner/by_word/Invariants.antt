use Rattle.std.proofs.Common.{◌≡◌}
use Rattle.bitmaps.proofs.Zip.{by_word_to}
use Rattle.bitmaps.proofs.inner.by_word.Given as goal

abbrev pub invariant-loop-i : goal.invariant-loop-i
invariant-loop-i g l = l.a ≡ by_word_to g.op l.i l.initial.a l.b
