-- An index: its three lent memories, how long each has to be, and where a basis, a face set's bit and a stored vector stand in them.
use Rattle.std.specs.Prelude.{ℕ, ◌+◌, ◌*◌, ◌≡◌, List, Bool, eqb, Float, length, take, drop, replicate}
use Rattle.std.specs.Float.{binary32}
use Rattle.std.specs.Float.Ieee.{of_bits}
use Rattle.paper.specs.Choice.{◌and◌, pick, refuse}
use Rattle.paper.specs.Geometry.{Geo, GeoFacts, geo_ok, comp_size, set_words, bases_len, face_words, vector_bytes}
use Rattle.bitmaps.specs.Words.{empty}

-- the words of the face sets, the words of the present marks, the bytes of the stored vectors
pub record Ix : Type 0 where
  pub faces : List ℕ
  pub marks : List ℕ
  pub vecs : List ℕ

abbrev pub ix_of : List ℕ → List ℕ → List ℕ → Ix
ix_of f m v = record { faces = f; marks = m; vecs = v }

-- ---- lengths, each exact

-- of marks and stored vectors
unfoldable pub store_ok : ℕ → ℕ → ℕ → ℕ → ℕ → Bool
store_ok d cap mode lm lv = eqb lm (set_words cap) and eqb lv (vector_bytes d cap mode)

-- of an index's own three memories: face sets, marks, stored vectors
unfoldable pub own_ok : ℕ → ℕ → ℕ → ℕ → ℕ → ℕ → ℕ → Bool
own_ok d n cap mode lf lm lv = eqb lf (face_words d n cap) and store_ok d cap mode lm lv

-- of the bases
unfoldable pub bases_ok : ℕ → ℕ → ℕ → Bool
bases_ok d n lb = eqb lb (bases_len d n)

abbrev pub own_ok_ix : Geo → Ix → Bool
own_ok_ix g ix = own_ok g.d g.n g.cap g.mode (length ix.faces) (length ix.marks) (length ix.vecs)

-- what a call gives that takes an index alone: 1 for the geometry, then 2 for a length
unfoldable pub own_refusal : ℕ → ℕ → ℕ → ℕ → ℕ → ℕ → ℕ → ℕ
own_refusal d n cap mode lf lm lv = refuse 1 (geo_ok d n cap mode) (refuse 2 (own_ok d n cap mode lf lm lv) 0)

-- ---- empty

-- a cleared memory: m floats of +0.0; m words, or bytes, of 0 are bitmaps `empty`
abbrev pub float_zeros : ℕ → List Float
float_zeros m = replicate m (of_bits binary32 0)

-- an empty index is all zeros
unfoldable pub empty_ix : Geo → Ix
empty_ix g = ix_of (empty (face_words g.d g.n g.cap)) (empty (set_words g.cap)) (empty (vector_bytes g.d g.cap g.mode))

-- the answer of a call that changes an index, and the index afterwards
pub record Done : Type 0 where
  pub answer : ℕ
  pub ix : Ix

abbrev pub done : ℕ → Ix → Done
done r ix = record { answer = r; ix = ix }

-- making an index empty: 1, then 2; else the empty index, whatever the memory held
unfoldable pub empty_of : Geo → Ix → Done
empty_of g ix =
    let r = own_refusal g.d g.n g.cap g.mode (length ix.faces) (length ix.marks) (length ix.vecs) in
    done r (pick (eqb r 0) (empty_ix g) ix)

-- ---- places

-- the face sets stand one after the other, C bits each, basis by basis and slot by slot: the bit of id i in the set of basis b's slot
abbrev pub face_bit : ℕ → ℕ → ℕ → ℕ → ℕ → ℕ
face_bit d cap b slot i = (b * (2 * d) + slot) * cap + i

-- the bytes of one slot, and the byte at which id i's slot begins
abbrev pub slot_bytes : ℕ → ℕ → ℕ
slot_bytes d mode = comp_size mode * d

abbrev pub slot_at : ℕ → ℕ → ℕ → ℕ
slot_at d mode i = i * slot_bytes d mode

-- the stored bytes of id i
abbrev pub stored_at : ℕ → ℕ → List ℕ → ℕ → List ℕ
stored_at d mode vs i = take (slot_bytes d mode) (drop (slot_at d mode i) vs)

-- ---- what the tests give

pub record StoreSized (d cap mode lm lv : ℕ) : Type 0 where
  pub marks : lm ≡ set_words cap
  pub vecs : lv ≡ vector_bytes d cap mode

pub record Sized (d n cap mode lf lm lv : ℕ) : Type 0 where
  pub facts : GeoFacts d n cap mode
  pub faces : lf ≡ face_words d n cap
  pub marks : lm ≡ set_words cap
  pub vecs : lv ≡ vector_bytes d cap mode
