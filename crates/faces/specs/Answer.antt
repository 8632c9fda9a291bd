-- What find_face_idx and spilling answer. Definitions only.
use Rattle.std.specs.Prelude.{ℕ, ◌-◌, List, [], ◌++◌, leb, eqb, ℤ, pos, Result, Ok, Err, length, replicate, Float}
use Rattle.paper.specs.Choice.{◌and◌, pick, refuse}
use Rattle.paper.specs.declared.Refusal.{Refusal}
use Rattle.paper.specs.Refusals.{number_of}
use Rattle.vector.specs.Finite.{all_finite}
use Rattle.faces.specs.Slots.{faces_of, after_of, picks_of}
use Rattle.faces.specs.declared.Spilled as Declared

-- 1 unless there are 1 to 1,024 entries, then 7 unless each of them is finite
unfoldable pub face_number : List Float → ℕ
face_number w = refuse 1 (leb 1 (length w) and leb (length w) 1024) (refuse 7 (all_finite w) 0)

-- what spilling answers: the refusal's number, how many faces it picked, and these in the first places of 1,024, zeros after them
pub record Spilled : Type 0 where
  pub refusal : ℕ
  pub count : ℕ
  pub faces : List ℤ

-- a list of faces in the first places of 1,024, zeros after it
abbrev pub listed : ℕ → ℕ → List ℤ → Spilled
listed num n fs = record { refusal = num; count = n; faces = fs ++ replicate (1024 - n) (pos 0) }

-- an answer as that record: a refused one has no face
abbrev pub spilled : Result Declared.Spilled Refusal → Spilled
spilled (Ok s) = record { refusal = 0; count = s.count; faces = s.faces }
spilled (Err r) = listed (number_of r) 0 []

-- that, and the projection that spilling leaves
pub record Spilling : Type 0 where
  pub answer : Spilled
  pub projection : List Float

abbrev pub spilling : Spilled → List Float → Spilling
spilling r w = record { answer = r; projection = w }

-- spill + 1 picks, at most d; none, and an unchanged projection, where it is refused
unfoldable pub spill_of : ℕ → List Float → Spilling
spill_of spill w =
    let n = picks_of (length w) spill in
    pick (eqb (face_number w) 0) (spilling (listed 0 n (faces_of n w)) (after_of n w)) (spilling (listed (face_number w) 0 []) w)
