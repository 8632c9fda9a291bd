use borrow.Author.Tests.{eq-eqb, ne_eqb}
use Rattle.paper.specs.Geometry.{comp_size}
use Rattle.paper.proofs.component_size.Goals as goal

pub returns-then-mode-eq0 : goal.returns-then-mode-eq0
unfolding comp_size
returns-then-mode-eq0 c = simp (eq-eqb _ _ c.if-mode-eq0.true)

pub returns-else-mode-eq0 : goal.returns-else-mode-eq0
unfolding comp_size
returns-else-mode-eq0 c = simp (ne_eqb _ _ c.if-mode-eq0.false)
