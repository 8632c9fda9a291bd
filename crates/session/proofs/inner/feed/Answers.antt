use Rattle.std.proofs.Common.{refl, ap, ◌∙◌, arith, Ok}
use Rattle.lines.specs.Lines.{told}
use Rattle.session.proofs.Feeds.{going_start, front_is, record_is, going_turn, ends_part, ends_full, ends_bad}
use Rattle.session.proofs.inner.feed.Goals as goal

pub loop-out-init : goal.loop-out-init
loop-out-init c = (going_start c.args.input.now _ c.args.out.now, c.requires, refl)

pub overflow_sub-out : goal.overflow_sub-out
overflow_sub-out c = omega (arith, c.loop-out.invariant.0.room)

pub slice_bounds-front-count : goal.slice_bounds-front-count
slice_bounds-front-count c = omega (arith, c.loop-out.invariant.0.within)

pub slice_bounds-front-start : goal.slice_bounds-front-start
slice_bounds-front-start c = omega (arith, c.loop-out.invariant.0.within)

pub slice_bounds-front-end : goal.slice_bounds-front-end
slice_bounds-front-end c = omega (arith, c.loop-out.invariant.0.within)

pub returns-in-Ok-None : goal.returns-in-Ok-None
returns-in-Ok-None c = ends_part _ _ _ _ _ _ _ c.loop-out.invariant.0 c.loop-out-test.true (front_is c.args.input.now c.loop-out.i _ _ c.front.ensures.told (c.in-Ok-None.is ∙ ap Ok c.in-Ok-None.field-0-is))

pub put_told-q-requires : goal.put_told-q-requires
put_told-q-requires c = omega (arith, c.loop-out-test.true, c.loop-out.invariant.0.room)

pub returns-in-Err : goal.returns-in-Err
unfolding told
returns-in-Err c = ends_bad _ _ _ _ _ _ _ c.loop-out.invariant.0 c.loop-out-test.true _ _ _ (front_is c.args.input.now c.loop-out.i _ _ c.front.ensures.told c.in-Err.is) (rw (← c.into.ensures) c.put_told-q.ensures)

pub step-a-requires : goal.step-a-requires
step-a-requires c = (c.loop-out.invariant.1, omega (arith, c.loop-out-test.true, c.loop-out.invariant.0.room))

pub loop-out-preserved : goal.loop-out-preserved
loop-out-preserved c = (going_turn _ _ _ _ _ _ _ c.loop-out.invariant.0 c.loop-out-test.true c.in-Ok-Some.n _ _ _ _ (front_is c.args.input.now c.loop-out.i _ _ c.front.ensures.told (c.in-Ok-Some.is ∙ ap Ok c.in-Ok-Some.field-0-is)) (record_is c.args.input.now c.loop-out.i c.in-Ok-Some.n _ _ refl refl) c.step-a.ensures, record { bases = c.step-a.auto.bases ∙ c.loop-out.invariant.1.bases; faces = c.step-a.auto.faces ∙ c.loop-out.invariant.1.faces; marks = c.step-a.auto.marks ∙ c.loop-out.invariant.1.marks; vectors = c.step-a.auto.vectors ∙ c.loop-out.invariant.1.vectors }, c.step-a.auto.out ∙ c.loop-out.invariant.2)

pub returns : goal.returns
returns c = ends_full _ _ _ _ _ _ _ c.loop-out.invariant.0 c.loop-out-test.false
