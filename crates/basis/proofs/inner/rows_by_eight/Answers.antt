-- `basis::inner::rows_by_eight` meets its contract. Assumes nothing.
use borrow.Author.Rules.{rules}
use mathlib.Core.Path.{◌∙◌}
use native.Mathlib.Omega.{arith}
use lib.ListN.{length}
use Rattle.basis.proofs.Sides.{rows_within, project_start, project_eight}
use Rattle.basis.proofs.inner.rows_by_eight.Goals as goal

pub loop-r-init : goal.loop-r-init
loop-r-init c = (c.requires.room, search rules, project_start c.args.basis.now c.args.target.now c.args.work.now)

pub overflow_mul-r : goal.overflow_mul-r
overflow_mul-r c = omega (arith, rows_within (length c.args.target.now) c.loop-r.r 8 (omega arith), c.requires.rows)

pub dots_of_eight-requires : goal.dots_of_eight-requires
dots_of_eight-requires c = omega (arith, rows_within (length c.args.target.now) c.loop-r.r 8 (omega arith), c.requires.rows)

pub put_four-requires : goal.put_four-requires
put_four-requires c = omega (arith, c.requires.room)

pub put_four-requires-in-loop-r : goal.put_four-requires-in-loop-r
put_four-requires-in-loop-r c = omega (arith, c.requires.room, c.put_four.auto.work)

pub loop-r-preserved : goal.loop-r-preserved
loop-r-preserved c = (
  c.put_four-in-loop-r.auto.work ∙ (c.put_four.auto.work ∙ c.loop-r.invariant.0),
  search rules,
  project_eight c.args.basis.now c.args.target.now c.loop-r.work c.put_four.new.work c.put_four-in-loop-r.new.work c.loop-r.r c.dots_of_eight.result.lo c.dots_of_eight.result.hi (omega arith) (omega (arith, c.requires.room)) c.put_four.auto.work c.dots_of_eight.ensures.0 c.dots_of_eight.ensures.1 c.put_four.ensures c.put_four-in-loop-r.ensures ∙ c.loop-r.invariant.2,
)

pub returns : goal.returns
returns c = (search rules, c.loop-r.invariant.2)
