-- `adding::add_to_bitmaps` meets its contract: after b turns the id is in the face sets of the first b bases. Assumes nothing.
use Prim.Native.Nat.{ℕ, ◌*◌, ◌<◌}
use mathlib.Core.Path.{◌∙◌, sym, refl, subst}
use lib.ListN.{get_or}
use Rattle.index_memory.specs.Memory.{face_bit}
use Rattle.index_memory.proofs.Places.{face_bit_low}
use Rattle.adding.specs.Adding.{with_faces}
use Rattle.adding.proofs.Turns.{with_more}
use Rattle.adding.proofs.add_to_bitmaps.Goals as goal

pub loop-b-init : goal.loop-b-init
unfolding with_faces
loop-b-init c = refl

pub add-requires : goal.add-requires
add-requires c =
    let a = c.args in
    let p = face_bit_low a.g.d a.g.n a.g.cap c.loop-b.b (get_or a.slots c.loop-b.b 0) a.id c.requires.cap_even c.loop-b-test.true (c.requires.low c.loop-b.b c.loop-b-test.true) c.requires.id_low in
    subst (λ (k : ℕ). face_bit a.g.d a.g.cap c.loop-b.b (get_or a.slots c.loop-b.b 0) a.id < k * 64) (sym (c.loop-b.auto.faces ∙ c.requires.faces)) p

pub loop-b-preserved : goal.loop-b-preserved
loop-b-preserved c =
    let a = c.args in
    c.add.ensures ∙ with_more a.g.d a.g.cap a.id (λ j. get_or a.slots j 0) c.loop-b.b a.faces.now _ c.loop-b.invariant
