-- The laws of this crate, which `laws` claims: what documents and the crates above lean on.
use Rattle.std.specs.Prelude.{◌≡◌, List, map, ℕ, ◌*◌, ◌≤◌, ◌<◌, T, ℤ, pos, Result, length, get_or, take, Float}
use Rattle.std.specs.Float.{nan, binary32}
use Rattle.std.specs.Float.Ieee.{fits}
use Rattle.paper.specs.declared.Refusal.{Refusal}
use Rattle.paper.specs.Refusals.{Answers}
use Rattle.faces.specs.Best.{best_of, First}
use Rattle.faces.specs.Slots.{face_of, slot_of_face, slot_of, picked_of, slots, faces_of, picks_of, HasFace}

pub record Laws : Type 0 where
  -- two answers to the same call are equal
  pub one_answer : (r s : Result ℤ Refusal) (num : ℕ) (f : ℤ) → Answers r num f (pos 0) → Answers s num f (pos 0) → r ≡ s
  -- a projection that is not refused, whose entries are floats of binary32, has an entry that none beats: `best_of` finds the first of them,
  -- and the 0 that its definition falls back to is never taken for want of one
  pub best_first : (w : List Float) → HasFace w → ((k : ℕ) → T (fits binary32 (get_or w k nan))) → First w (best_of w)
  -- what a pick leaves has a face again, so that each pick of a spill finds one
  pub picked_face : (w : List Float) → HasFace w → HasFace (picked_of w)
  -- a slot is below 2d
  pub slot_low : (w : List Float) → 1 ≤ length w → slot_of w < 2 * length w
  -- the slot is that of the face, and the slots of several picks are those of their faces
  pub face_slot_is : (w : List Float) → slot_of w ≡ slot_of_face (length w) (face_of w)
  pub faces_slots : (n : ℕ) (w : List Float) → slots n w ≡ map (slot_of_face (length w)) (faces_of n w)
  -- the picks of a smaller spill begin those of a larger one, the clamp at d - 1 included
  pub picks_begin : (d s t : ℕ) (w : List Float) → s ≤ t → take (picks_of d s) (slots (picks_of d t) w) ≡ slots (picks_of d s) w
