-- `faces::inner::goes_before` meets its contract. Assumes nothing.
use Rattle.faces.proofs.Rank.{beats_abs}
use Rattle.faces.proofs.inner.goes_before.Goals as goal

pub returns-then-a-b : goal.returns-then-a-b
returns-then-a-b c = rw (beats_abs c.args.y c.args.x, ← c.abs-a.ensures.value, ← c.abs-b.ensures.value, c.if-a-b.true)

pub returns-then-y : goal.returns-then-y
returns-then-y c =
    rw (beats_abs c.args.y c.args.x, ← c.abs-a.ensures.value, ← c.abs-b.ensures.value, c.if-a-b.false, c.if-a-b-2.true, c.if-y.true)

pub returns-else-y : goal.returns-else-y
returns-else-y c =
    rw (beats_abs c.args.y c.args.x, ← c.abs-a.ensures.value, ← c.abs-b.ensures.value, c.if-a-b.false, c.if-a-b-2.true, c.if-y.false)

pub returns-else-a-b-2 : goal.returns-else-a-b-2
returns-else-a-b-2 c =
    rw (beats_abs c.args.y c.args.x, ← c.abs-a.ensures.value, ← c.abs-b.ensures.value, c.if-a-b.false, c.if-a-b-2.false)
