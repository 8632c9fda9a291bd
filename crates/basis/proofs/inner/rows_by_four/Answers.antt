-- `basis::inner::rows_by_four` meets its contract. Assumes nothing.
use borrow.Author.Rules.{rules}
use mathlib.Core.Path.{refl, ◌∙◌}
use native.Mathlib.Omega.{arith}
use lib.ListN.{length}
use Rattle.basis.proofs.Sides.{rows_within, project_four}
use Rattle.basis.proofs.inner.rows_by_four.Goals as goal

pub loop-r-init : goal.loop-r-init
loop-r-init c = (c.requires.0.room, search rules, refl)

pub overflow_mul-r : goal.overflow_mul-r
overflow_mul-r c = omega (arith, rows_within (length c.args.target.now) c.loop-r.r 4 (omega arith), c.requires.0.rows)

pub dots_of_four-q-requires : goal.dots_of_four-q-requires
dots_of_four-q-requires c = omega (arith, rows_within (length c.args.target.now) c.loop-r.r 4 (omega arith), c.requires.0.rows)

pub put_four-requires : goal.put_four-requires
put_four-requires c = omega (arith, c.requires.0.room)

pub loop-r-preserved : goal.loop-r-preserved
loop-r-preserved c = (
  c.put_four.auto.work ∙ c.loop-r.invariant.0,
  search rules,
  rw c.put_four.ensures (project_four c.args.basis.now c.args.target.now c.loop-r.work c.loop-r.r c.dots_of_four-q.result (omega arith) (omega (arith, c.requires.0.room)) c.dots_of_four-q.ensures ∙ c.loop-r.invariant.2),
)

pub returns : goal.returns
returns c = (search rules, c.loop-r.invariant.2)
