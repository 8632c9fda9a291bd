-- `adding::slots_of` meets its contract: after b turns the first b projections are finite, and the first b slots are found. Assumes nothing.
use Prim.Native.Nat.{◌*◌, ◌<◌}
use mathlib.Core.Path.{◌≡◌, ◌∙◌, sym, ap, refl}
use mathlib.Core.Bool.{true, false}
use native.Mathlib.Omega.{arith}
use lib.ListN.{length, length-set}
use Rattle.vector.specs.Finite.{all_finite}
use Rattle.faces.specs.Slots.{slot_of}
use Rattle.basis.specs.Bases.{projection_at, projections_finite}
use Rattle.adding.specs.Adding.{face_slot}
use Rattle.basis.proofs.Bases.{finite_more, finite_no}
use Rattle.adding.proofs.Turns.{projection_here, slot_more}
use Rattle.adding.proofs.slots_of.Goals as goal

pub loop-b-init : goal.loop-b-init
unfolding projections_finite
loop-b-init c = (c.requires.work, refl, refl, λ j (l : j < 0). absurd (omega arith))

pub returns-then-not-all_finite-clause-told : goal.returns-then-not-all_finite-clause-told
returns-then-not-all_finite-clause-told c =
    let a = c.args in
    let w = c.project.ensures ∙ projection_here a.g.d (c.loop-b.b * (a.g.d * a.g.d)) c.loop-b.b a.bases.now a.v.now refl in
    let f : all_finite (projection_at a.g.d a.bases.now a.v.now c.loop-b.b) ≡ false = ap all_finite (sym w) ∙ sym c.all_finite.ensures ∙ c.if-not-all_finite.true in
    rw (finite_no a.g.d a.bases.now a.v.now a.g.n c.loop-b.b c.loop-b-test.true f)

pub loop-b-preserved : goal.loop-b-preserved
loop-b-preserved c =
    let a = c.args in
    let w = c.project.ensures ∙ projection_here a.g.d (c.loop-b.b * (a.g.d * a.g.d)) c.loop-b.b a.bases.now a.v.now refl in
    let f : all_finite (projection_at a.g.d a.bases.now a.v.now c.loop-b.b) ≡ true = ap all_finite (sym w) ∙ sym c.all_finite.ensures ∙ c.if-not-all_finite.false in
    let few : c.loop-b.b < length c.loop-b.slots = omega (arith, c.loop-b.invariant.1, c.requires.n_high) in (
      c.project.auto.work ∙ c.loop-b.invariant.0,
      simp length-set c.loop-b.invariant.1,
      finite_more a.g.d a.bases.now a.v.now c.loop-b.b c.loop-b.invariant.2 f,
      slot_more (face_slot a.g.d a.bases.now a.v.now) c.loop-b.slots c.loop-b.b _ few c.loop-b.invariant.3 (c.slot.ensures.0 ∙ ap slot_of w),
    )
