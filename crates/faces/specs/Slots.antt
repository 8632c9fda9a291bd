-- Faces as signed numbers at the edge, slots as the places of face sets, and the picks of a search (01, "Geometry" and "Face"). Definitions only.
use Rattle.std.specs.Prelude.{ℕ, zero, suc, ◌+◌, ◌-◌, ◌≤◌, ◌≡◌, Bool, true, List, [], ◌∷◌, leb, ℤ, pos, negsuc, length, get_or, set, Float}
use Rattle.std.specs.Float.{nan}
use Rattle.paper.specs.Choice.{pick}
use Rattle.vector.specs.Fold.{zero32}
use Rattle.vector.specs.Finite.{all_finite}
use Rattle.faces.specs.Best.{positive, best_of}

-- index + 1 where the entry is above 0, else -(index + 1)
abbrev pub face_for : Bool → ℕ → ℤ
face_for up i = pick up (pos (suc i)) (negsuc i)

-- the face of a projection
unfoldable pub face_of : List Float → ℤ
face_of w = face_for (positive (get_or w (best_of w) nan)) (best_of w)

-- a face f > 0 has the slot f - 1, a face f < 0 the slot d + |f| - 1
abbrev pub slot_of_face : ℕ → ℤ → ℕ
slot_of_face d (pos f) = f - 1
slot_of_face d (negsuc f) = d + suc f - 1

-- the slot of a projection: its face's
unfoldable pub slot_of : List Float → ℕ
slot_of w = slot_of_face (length w) (face_of w)

-- the slot of index i of d, by the sign of the entry there
abbrev pub slot_for : ℕ → Bool → ℕ → ℕ
slot_for d up i = pick up i (d + i)

-- the projection after a pick: +0.0 in the place of the picked entry
unfoldable pub picked_of : List Float → List Float
picked_of w = set w (best_of w) zero32

-- the slots of n picks, one after the other
unfoldable pub slots : ℕ → List Float → List ℕ
slots zero w = []
slots (suc n) w = slot_of w ∷ slots n (picked_of w)

-- the faces of the same picks
unfoldable pub faces_of : ℕ → List Float → List ℤ
faces_of zero w = []
faces_of (suc n) w = face_of w ∷ faces_of n (picked_of w)

-- the projection after n picks
unfoldable pub after_of : ℕ → List Float → List Float
after_of zero w = w
after_of (suc n) w = after_of n (picked_of w)

-- spill + 1 picks; spill at or above d becomes d - 1
unfoldable pub picks_of : ℕ → ℕ → ℕ
picks_of d spill = pick (leb d spill) d (spill + 1)

-- a projection that has a face
pub record HasFace (w : List Float) : Type 0 where
  pub some : 1 ≤ length w
  pub few : length w ≤ 1024
  pub finite : all_finite w ≡ true
