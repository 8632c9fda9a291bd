-- Laws of faces, slots and picks for the crates above. Assumes nothing.
use mathlib.Core.Path.{◌≡◌, refl, ◌∙◌, ap}
use mathlib.Core.Bool.{Bool, true, false}
use mathlib.Core.List.{List, ◌∷◌, map}
use Prim.Native.Nat.{ℕ, zero, suc, ◌+◌, ◌*◌, ◌<◌, ◌≤◌}
use native.Mathlib.Nat.{not-suc-le-zero, le_of_suc-le-suc}
use native.Mathlib.Omega.{arith}
use lib.Dec.{leb}
use borrow.Author.Tests.{leb-true, leb-false}
use lib.ListN.{length, get_or, take, length-set}
use lib.Ieee.{Float, nan, of_bits}
use Rattle.paper.specs.Choice.{pick}
use Rattle.vector.specs.Fold.{zero32}
use Rattle.vector.specs.Finite.{is_finite, all_finite}
use Rattle.vector.proofs.Vectors.{every_set}
use Rattle.faces.specs.Best.{positive, best_of}
use Rattle.faces.specs.Slots.{face_for, face_of, slot_of_face, slot_for, slot_of, picked_of, slots, faces_of, after_of, picks_of, HasFace}
use Rattle.faces.proofs.First.{best_low}

-- ---- a pick

pub length_picked : (w : List Float) → length (picked_of w) ≡ length w
unfolding picked_of
length_picked w = simp length-set

zero_finite : is_finite zero32 ≡ true
unfolding of_bits
zero_finite = refl

pub finite_picked : (w : List Float) → all_finite w ≡ true → all_finite (picked_of w) ≡ true
unfolding picked_of
finite_picked w h = every_set is_finite w (best_of w) zero32 zero_finite h

-- what a pick leaves has a face again
pub picked_face : (w : List Float) → HasFace w → HasFace (picked_of w)
picked_face w h =
    record { some = rw (length_picked w) h.some; few = rw (length_picked w) h.few; finite = finite_picked w h.finite }

-- ---- faces and slots

-- the slot of a face, by index and sign
pub face_for_slot : (d : ℕ) (up : Bool) (i : ℕ) → slot_of_face d (face_for up i) ≡ slot_for d up i
face_for_slot d true i = omega arith
face_for_slot d false i = omega arith

-- the slot is that of the face
pub face_slot_is : (w : List Float) → slot_of w ≡ slot_of_face (length w) (face_of w)
unfolding slot_of
face_slot_is w = refl

pub slot_is : (w : List Float) → slot_of w ≡ slot_for (length w) (positive (get_or w (best_of w) nan)) (best_of w)
unfolding slot_of face_of
slot_is w = face_for_slot (length w) (positive (get_or w (best_of w) nan)) (best_of w)

-- an index's slot is below 2d
pub slot_for_low : (d : ℕ) (up : Bool) (i : ℕ) → i < d → slot_for d up i < 2 * d
slot_for_low d true i h = omega arith
slot_for_low d false i h = omega arith

-- a slot is below 2d
pub slot_low : (w : List Float) → 1 ≤ length w → slot_of w < 2 * length w
slot_low w h = rw (slot_is w) (slot_for_low (length w) (positive (get_or w (best_of w) nan)) (best_of w) (best_low w h))

-- the slots of several picks are those of their faces
pub faces_slots : (n : ℕ) (w : List Float) → slots n w ≡ map (slot_of_face (length w)) (faces_of n w)
unfolding slots faces_of
faces_slots zero w = refl
faces_slots (suc n) w =
    ap (◌∷◌ (slot_of w)) (faces_slots n (picked_of w) ∙ ap (λ (d : ℕ). map (slot_of_face d) (faces_of n (picked_of w))) (length_picked w))
    ∙ ap (λ (s : ℕ). s ∷ map (slot_of_face (length w)) (faces_of n (picked_of w))) (face_slot_is w)

-- ---- several picks

pub length_slots : (n : ℕ) (w : List Float) → length (slots n w) ≡ n
unfolding slots
length_slots zero w = refl
length_slots (suc n) w = ap suc (length_slots n (picked_of w))

pub length_faces : (n : ℕ) (w : List Float) → length (faces_of n w) ≡ n
unfolding faces_of
length_faces zero w = refl
length_faces (suc n) w = ap suc (length_faces n (picked_of w))

pub length_after : (n : ℕ) (w : List Float) → length (after_of n w) ≡ length w
unfolding after_of
length_after zero w = refl
length_after (suc n) w = length_after n (picked_of w) ∙ length_picked w

-- fewer picks begin more of them
pub slots_begin : (m n : ℕ) (w : List Float) → m ≤ n → take m (slots n w) ≡ slots m w
unfolding slots
slots_begin zero n w h = refl
slots_begin (suc m) zero w h = absurd (not-suc-le-zero h)
slots_begin (suc m) (suc n) w h = ap (◌∷◌ (slot_of w)) (slots_begin m n (picked_of w) (le_of_suc-le-suc h))

-- a larger spill picks no less
pub picks_more : (d s t : ℕ) → s ≤ t → picks_of d s ≤ picks_of d t
unfolding picks_of
picks_more d s t h = go (leb d s) (leb d t) refl refl
  where
    go : (a b : Bool) → leb d s ≡ a → leb d t ≡ b → pick a d (s + 1) ≤ pick b d (t + 1)
    go true true p q = omega arith
    go true false p q = omega (arith, leb-true d s p, leb-false d t q)
    go false true p q = omega (arith, leb-false d s p)
    go false false p q = omega arith

-- at most d picks, and at least one where there is a dimension
pub picks_within : (d s : ℕ) → picks_of d s ≤ d
unfolding picks_of
picks_within d s = go (leb d s) refl
  where
    go : (a : Bool) → leb d s ≡ a → pick a d (s + 1) ≤ d
    go true p = omega arith
    go false p = omega (arith, leb-false d s p)

pub picks_some : (d s : ℕ) → 1 ≤ d → 1 ≤ picks_of d s
unfolding picks_of
picks_some d s h = go (leb d s)
  where
    go : (a : Bool) → 1 ≤ pick a d (s + 1)
    go true = h
    go false = omega arith

-- the picks for a spill begin the picks for a larger one, the clamp at d - 1 included
pub picks_begin : (d s t : ℕ) (w : List Float) → s ≤ t → take (picks_of d s) (slots (picks_of d t) w) ≡ slots (picks_of d s) w
picks_begin d s t w h = slots_begin (picks_of d s) (picks_of d t) w (picks_more d s t h)
