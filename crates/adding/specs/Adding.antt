-- What adding a vector does to an index (01, "Store and search"), and what it refuses, in the order of 01's table.
use Rattle.std.specs.Prelude.{ℕ, zero, suc, ◌*◌, ◌%◌, ◌<◌, ◌≤◌, ◌≡◌, List, Bool, leb, ltb, eqb, Float, length, get_or}
use Rattle.std.proofs.lemmas.List.Edits.{sets}
use Rattle.paper.specs.Choice.{◌and◌, pick, refuse}
use Rattle.paper.specs.Geometry.{Geo, geo_ok, GeoFacts, set_words, bases_len, face_words, vector_bytes}
use Rattle.index_memory.specs.Memory.{Ix, ix_of, own_ok, bases_ok, face_bit, slot_at, float_zeros}
use Rattle.bitmaps.specs.Words.{inserted}
use Rattle.vector.specs.Finite.{all_finite}
use Rattle.vector.specs.Norm.{norm_number, normalized}
use Rattle.basis.specs.Bases.{projection_at, projections_finite}
use Rattle.faces.specs.Slots.{slot_of}
use Rattle.quantization.specs.Stored.{lower_bytes}

-- ---- the faces of a vector

-- the slot of the face of the vector as given, on basis b
abbrev pub face_slot : ℕ → List Float → List Float → ℕ → ℕ
face_slot d bs v b = slot_of (projection_at d bs v b)

-- ---- an accepted addition

-- the id put into one face set of each of the first n bases, that of its slot there
unfoldable pub with_faces : ℕ → ℕ → ℕ → (ℕ → ℕ) → ℕ → List ℕ → List ℕ
with_faces d cap id slot zero fs = fs
with_faces d cap id slot (suc b) fs = inserted (with_faces d cap id slot b fs) (face_bit d cap b (slot b) id)

-- the normalised vector, lowered, in the id's slot
unfoldable pub with_vector : ℕ → ℕ → ℕ → List Float → List ℕ → List ℕ
with_vector d mode id v vs = sets vs (slot_at d mode id) (lower_bytes mode (normalized v))

-- face bits, for given slots, mark and stored vector: what was there of other ids, and older face bits of this one, stay
abbrev pub written_ix : Geo → (ℕ → ℕ) → ℕ → List Float → Ix → Ix
written_ix g slot id v ix =
    ix_of (with_faces g.d g.cap id slot g.n ix.faces) (inserted ix.marks id) (with_vector g.d g.mode id v ix.vecs)

-- an addition writes them for the vector's own slots
unfoldable pub added_ix : Geo → List Float → ℕ → List Float → Ix → Ix
added_ix g bs id v ix = written_ix g (face_slot g.d bs v) id v ix

-- ---- refusals

-- the lengths that an addition is lent besides the index: bases, work, vector
unfoldable pub lent_ok : ℕ → ℕ → ℕ → ℕ → ℕ → Bool
lent_ok d n lb lw lx = bases_ok d n lb and eqb lw d and eqb lx d

abbrev pub lengths_ok : Geo → ℕ → ℕ → ℕ → ℕ → ℕ → ℕ → Bool
lengths_ok g lb lf lm lv lw lx = own_ok g.d g.n g.cap g.mode lf lm lv and lent_ok g.d g.n lb lw lx

-- 1, 2, 3, 5, 6, 7, in this order, or 0
unfoldable pub add_refusal : Geo → List Float → ℕ → List Float → Ix → List Float → ℕ
add_refusal g bs id v ix work =
    refuse 1 (geo_ok g.d g.n g.cap g.mode)
    (refuse 2 (lengths_ok g (length bs) (length ix.faces) (length ix.marks) (length ix.vecs) (length work) (length v))
    (refuse 3 (ltb id g.cap)
    (refuse 5 (all_finite v)
    (refuse 6 (eqb (norm_number v) 0)
    (refuse 7 (projections_finite g.d bs v g.n) 0)))))

-- ---- the whole of a call

-- the answer, and all lent memory that it may change
pub record Added : Type 0 where
  pub answer : ℕ
  pub ix : Ix
  pub work : List Float

abbrev pub added : ℕ → Ix → List Float → Added
added r ix w = record { answer = r; ix = ix; work = w }

-- refusals 1 to 5 leave the work memory alone; past them it is +0.0 throughout, whatever the answer
unfoldable pub work_after : ℕ → List Float → List Float
work_after r w = pick (leb 1 r and leb r 5) w (float_zeros (length w))

-- no refusal changes the index
unfoldable pub add_of : Geo → List Float → ℕ → List Float → Ix → List Float → Added
add_of g bs id v ix work =
    let r = add_refusal g bs id v ix work in
    added r (pick (eqb r 0) (added_ix g bs id v ix) ix) (work_after r work)

-- ---- what the private functions ask and give

-- the first three refusals, and the two that are found while the work memory is in use
unfoldable pub add_shape : Geo → ℕ → ℕ → ℕ → ℕ → ℕ → ℕ → ℕ → ℕ
add_shape g id lb lf lm lv lw lx =
    refuse 1 (geo_ok g.d g.n g.cap g.mode) (refuse 2 (lengths_ok g lb lf lm lv lw lx) (refuse 3 (ltb id g.cap) 0))

unfoldable pub late_refusal : ℕ → ℕ → List Float → List Float → ℕ
late_refusal d n bs v = refuse 6 (eqb (norm_number v) 0) (refuse 7 (projections_finite d bs v n) 0)

-- what a call that passed 1, 2, 3 knows
pub record Shaped (g : Geo) (id lb lf lm lv lw lx : ℕ) : Type 0 where
  pub facts : GeoFacts g.d g.n g.cap g.mode
  pub bases : lb ≡ bases_len g.d g.n
  pub faces : lf ≡ face_words g.d g.n g.cap
  pub marks : lm ≡ set_words g.cap
  pub vectors : lv ≡ vector_bytes g.d g.cap g.mode
  pub work : lw ≡ g.d
  pub vector : lx ≡ g.d
  pub id_low : id < g.cap

pub record SlotArgs (d n lb lx lw : ℕ) : Type 0 where
  pub d_low : 1 ≤ d
  pub d_high : d ≤ 1024
  pub n_high : n ≤ 32
  pub bases : lb ≡ bases_len d n
  pub vector : lx ≡ d
  pub work : lw ≡ d

pub record FaceArgs (d n cap id lf : ℕ) (slots : List ℕ) : Type 0 where
  pub d_high : d ≤ 1024
  pub n_high : n ≤ 32
  pub cap_high : cap ≤ 65536
  pub cap_even : cap % 64 ≡ 0
  pub id_low : id < cap
  pub faces : lf ≡ face_words d n cap
  pub low : (b : ℕ) → b < n → get_or slots b 0 < 2 * d

pub record VecArgs (d cap mode id lv lx lw : ℕ) : Type 0 where
  pub d_high : d ≤ 1024
  pub cap_high : cap ≤ 65536
  pub id_low : id < cap
  pub vectors : lv ≡ vector_bytes d cap mode
  pub vector : lx ≡ d
  pub work : lw ≡ d

-- what writing an addition asks: nothing can refuse it any more
pub record WriteArgs (d n cap mode id lf lm lv lw lx : ℕ) (slots : List ℕ) : Type 0 where
  pub facts : GeoFacts d n cap mode
  pub faces : lf ≡ face_words d n cap
  pub marks : lm ≡ set_words cap
  pub vectors : lv ≡ vector_bytes d cap mode
  pub work : lw ≡ d
  pub vector : lx ≡ d
  pub id_low : id < cap
  pub low : (b : ℕ) → b < n → get_or slots b 0 < 2 * d
