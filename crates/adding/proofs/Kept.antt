-- What an accepted addition leaves: its face bits and its mark are set, no face bit is taken out, and other ids keep their marks and stored bytes. Assumes nothing.
use Prim.Native.Nat.{ℕ, ◌*◌, ◌≤◌, ◌<◌}
use mathlib.Core.Path.{◌≡◌, refl, sym, subst}
use mathlib.Core.List.{List}
use native.Mathlib.Omega.{arith}
use lib.Ieee.{Float}
use lib.ListN.{length}
use Rattle.paper.specs.Geometry.{Geo}
use Rattle.index_memory.specs.Memory.{Ix, face_bit, slot_bytes, slot_at, stored_at}
use Rattle.index_memory.proofs.Places.{mark_low}
use Rattle.index_memory.proofs.Stores.{places_apart, part_sets}
use Rattle.bitmaps.specs.Words.{has}
use Rattle.bitmaps.proofs.Rising.{has_inserted, has_kept}
use Rattle.vector.specs.Norm.{normalized}
use Rattle.quantization.specs.Stored.{lower_bytes}
use Rattle.adding.specs.Adding.{face_slot, with_vector, added_ix, add_refusal, add_of}
use Rattle.adding.proofs.Accepted.{accepted_shape, length_stored}
use Rattle.adding.proofs.Faces.{faces_kept, faces_set}

module _ (g : Geo) (bs : List Float) (id : ℕ) (v : List Float) (ix : Ix) (work : List Float) (e : (add_of g bs id v ix work).answer ≡ 0) where
  pub none : add_refusal g bs id v ix work ≡ 0
  unfolding add_of
  none = e

  pub after : (add_of g bs id v ix work).ix ≡ added_ix g bs id v ix
  unfolding add_of
  after = rw none

  pub added_face : (b : ℕ) → b < g.n → has (add_of g bs id v ix work).ix.faces (face_bit g.d g.cap b (face_slot g.d bs v b) id) ≡ 1
  unfolding added_ix
  added_face b h = rw after (faces_set g bs id v ix.faces _ _ _ _ (accepted_shape g bs id v ix work none) b g.n h (omega arith))

  pub faces_stay : (k : ℕ) → has ix.faces k ≤ has (add_of g bs id v ix work).ix.faces k
  unfolding added_ix
  faces_stay k = rw after (faces_kept g bs id v ix.faces _ _ _ _ (accepted_shape g bs id v ix work none) k g.n (omega arith))

  mark_room : id < length ix.marks * 64
  mark_room =
      let s = accepted_shape g bs id v ix work none in
      subst (λ (k : ℕ). id < k * 64) (sym s.marks) (mark_low g.cap id s.facts.cap_even s.id_low)

  pub added_mark : has (add_of g bs id v ix work).ix.marks id ≡ 1
  unfolding added_ix
  added_mark = rw after (has_inserted ix.marks id mark_room)

  pub marks_stay : (j : ℕ) → (j ≡ id → ⊥) → has (add_of g bs id v ix work).ix.marks j ≡ has ix.marks j
  unfolding added_ix
  marks_stay j ne = rw after (has_kept ix.marks id j mark_room ne)

  pub stored_stay : (j : ℕ) → (j ≡ id → ⊥) → stored_at g.d g.mode (add_of g bs id v ix work).ix.vecs j ≡ stored_at g.d g.mode ix.vecs j
  unfolding added_ix with_vector
  stored_stay j ne =
      let s = accepted_shape g bs id v ix work none in
      let w : List ℕ = lower_bytes g.mode (normalized v) in
      rw after
      (part_sets w ix.vecs (slot_at g.d g.mode j) (slot_bytes g.d g.mode) (slot_at g.d g.mode id)
      (places_apart j id (slot_bytes g.d g.mode) (slot_bytes g.d g.mode) (length w) ne refl (length_stored g.d g.mode v s.vector)))
