-- `faces::inner::pick_faces` meets its contract. Assumes nothing.
use borrow.Author.Rules.{rules}
use Prim.Native.Nat.{◌<◌}
use mathlib.Core.Path.{refl, sym, ◌∙◌, ap}
use native.Mathlib.Nat.{sub-zero}
use native.Mathlib.Omega.{arith}
use lib.ListN.{length, length-set}
use mir.Syntax.{w32}
use mir.ValLaws.{to_z-of_z}
use Rattle.vector.specs.Finite.{all_finite}
use Rattle.faces.proofs.Slots.{length_picked, finite_picked}
use Rattle.faces.proofs.Picks.{face_at, picked_at, after_step, faces_step, after_end, faces_end, rest_step, written}
use Rattle.faces.proofs.inner.pick_faces.Goals as goal

pub loop-k-init : goal.loop-k-init
loop-k-init c = (refl, refl, search rules, c.requires.0.finite, rw sub-zero, rw sub-zero, refl)

pub best_index-b-requires : goal.best_index-b-requires
best_index-b-requires c =
    record { some = omega (arith, c.requires.0.some); few = omega (arith, c.requires.0.few); finite = c.loop-k.invariant.3 }

pub face_of-requires : goal.face_of-requires
face_of-requires c = omega (arith, c.requires.0.few)

pub loop-k-preserved : goal.loop-k-preserved
loop-k-preserved c =
    let w = c.loop-k.projection in
    let n = c.args.n in
    let k = c.loop-k.k in
    let B = c.best_index-b.ensures.1 in
    let P = picked_at w c.best_index-b.result B in
    let z = face_at w c.best_index-b.result B _ (to_z-of_z w32 c.face_of.result (record { sfits = c.face_of.type_inv }) ∙ c.face_of.ensures) in
    let l : k < n = omega arith in (
      ap length P ∙ length_picked w ∙ c.loop-k.invariant.0,
      simp length-set c.loop-k.invariant.1,
      omega arith,
      ap all_finite P ∙ finite_picked w c.loop-k.invariant.3,
      after_step n k l w _ P ∙ c.loop-k.invariant.4,
      faces_step n k l w _ P c.loop-k.out _ (omega arith) z ∙ c.loop-k.invariant.5,
      rest_step k c.loop-k.out c.args.out.now _ c.loop-k.invariant.6,
    )

pub returns : goal.returns
returns c = (
  sym (after_end c.args.n c.loop-k.k c.loop-k-test.false c.loop-k.projection) ∙ c.loop-k.invariant.4,
  written c.args.n c.loop-k.k c.loop-k.out c.args.out.now _ (omega arith) (sym (faces_end c.args.n c.loop-k.k c.loop-k-test.false c.loop-k.projection c.loop-k.out) ∙ c.loop-k.invariant.5) c.loop-k.invariant.6,
)
