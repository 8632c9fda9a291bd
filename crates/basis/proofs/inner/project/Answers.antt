-- `basis::inner::project` meets its contract. Assumes nothing.
use Rattle.std.proofs.Common.{sym, ◌∙◌, arith}
use native.Mathlib.Nat.{add-sub_cancel_left}
use Rattle.basis.proofs.Sides.{project_step, project_end}
use Rattle.basis.proofs.inner.project.Goals as goal

pub loop-r-init : goal.loop-r-init
loop-r-init c = c.rows_by_four-fours.ensures.1 ∙ c.rows_by_eight-eights.ensures.1

pub loop-r-preserved : goal.loop-r-preserved
loop-r-preserved c =
    project_step c.args.basis.now c.args.target.now c.loop-r.work c.loop-r.r c.dot_of.result c.loop-r-test.true (omega (arith, c.requires.room)) (c.dot_of.ensures ∙ simp add-sub_cancel_left) ∙ c.loop-r.invariant

pub returns : goal.returns
returns c = sym (project_end c.args.basis.now c.args.target.now c.loop-r.work c.loop-r.r (omega arith) (omega (arith, c.requires.room))) ∙ c.loop-r.invariant
