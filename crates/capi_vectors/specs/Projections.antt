-- The calls on vectors and projections, with their answers in lent places. Definitions only.
use Rattle.std.specs.Prelude.{ℕ, Bool, List, eqb, leb, ℤ, Float, length}
use Rattle.paper.specs.Choice.{◌and◌, pick}
use Rattle.faces.specs.Slots.{face_of}
use Rattle.faces.specs.Answer.{face_number, Spilling, spill_of}
use Rattle.capi_vectors.specs.Single.{Single, single, into_one, laid_over}

-- 1 to 1,024 entries
unfoldable pub dims_ok : ℕ → Bool
dims_ok d = leb 1 d and leb d 1024

-- the face of a projection: 1 for its length, 2 for the place's, then 7 for an entry
unfoldable pub face_into : List Float → List ℤ → Single ℤ
face_into w ys =
    pick (dims_ok (length w)) (into_one (face_number w) (face_of w) ys) (single 1 ys)

-- ---- spilling

-- the answer's number, the projection, and the array of faces
pub record Spilt : Type 0 where
  pub answer : ℕ
  pub projection : List Float
  pub faces : List ℤ

abbrev pub spilt : ℕ → List Float → List ℤ → Spilt
spilt num w fs = record { answer = num; projection = w; faces = fs }

-- the picked faces in the first places, the others kept; a refusal keeps all
abbrev pub into_faces : Spilling → List ℤ → Spilt
into_faces s fs =
    spilt s.answer.refusal s.projection (pick (eqb s.answer.refusal 0) (laid_over s.answer.count s.answer.faces fs) fs)

-- 1 for the projection's length, 2 for the array's, then 7 for an entry
unfoldable pub spill_into : ℕ → List Float → List ℤ → Spilt
spill_into spill w fs =
    pick (dims_ok (length w))
    (pick (eqb (length fs) (length w)) (into_faces (spill_of spill w) fs) (spilt 2 w fs))
    (spilt 1 w fs)
