-- `faces::inner::slot_of` meets its contract. Assumes nothing.
use native.Mathlib.Omega.{arith}
use Rattle.faces.proofs.inner.slot_of.Goals as goal

pub returns-then-up : goal.returns-then-up
returns-then-up c = (simp c.if-up.true, omega arith)

pub returns-else-up : goal.returns-else-up
returns-else-up c = (simp c.if-up.false, omega arith)
