-- `faces::inner::best_index` meets its contract. Assumes nothing.
use mathlib.Core.Path.{sym, ◌∙◌}
use native.Mathlib.Omega.{arith}
use Rattle.vector.specs.Finite.{is_finite}
use Rattle.vector.proofs.Vectors.{every_at}
use Rattle.faces.proofs.First.{start, step_yes, step_no, best_is}
use Rattle.faces.proofs.inner.best_index.Goals as goal
use Rattle.faces.proofs.inner.best_index.Goals.{then-goes_before, else-goes_before}

pub loop-i-init : goal.loop-i-init
loop-i-init c = start c.args.projection.now c.requires.some

pub loop-i-preserved : goal.loop-i-preserved
loop-i-preserved c =
    let xs = c.args.projection.now in
    let F = every_at is_finite xs c.requires.finite in
    elim c.if-goes_before.branch [
      | then-goes_before w ↦ rw w.best-is (step_yes xs F c.type_inv.projection c.loop-i.best c.loop-i.i c.loop-i.invariant (omega arith) (sym c.goes_before.ensures ∙ w.if-goes_before.true))
      | else-goes_before w ↦ rw w.best-is (step_no xs F c.type_inv.projection c.loop-i.best c.loop-i.i c.loop-i.invariant (omega arith) (sym c.goes_before.ensures ∙ w.if-goes_before.false))
    ]

pub returns : goal.returns
returns c =
    (omega arith, sym (best_is c.args.projection.now (every_at is_finite c.args.projection.now c.requires.finite) c.type_inv.projection c.loop-i.best (omega arith) (λ k h. c.loop-i.invariant.2 k (omega arith)) c.loop-i.invariant.3))
