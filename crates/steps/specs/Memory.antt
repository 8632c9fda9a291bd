-- The program's memory, of which an index uses the front, and the two calls of the index on it.
use Rattle.std.specs.Prelude.{ℕ, ◌*◌, ◌≤◌, ◌≡◌, List, ◌++◌, take, drop, replicate, Float}
use Rattle.std.specs.Float.Ieee.{of_bits}
use Rattle.std.specs.Float.{binary32}
use Rattle.paper.specs.Geometry.{Geo, geo, set_words, bases_len, face_words, vector_bytes}
use Rattle.paper.specs.declared.Lengths.{Lengths}
use Rattle.records.specs.Fields.{floats_at}
use Rattle.records.specs.declared.Session.{Session}
use Rattle.index_memory.specs.Memory.{Ix, ix_of}
use Rattle.adding.specs.Adding.{Added, add_of}
use Rattle.vector_store.specs.Search.{Nearest, works, search_of}

-- the lengths of the program's memory: bases, face sets, marks, stored vectors, for d 8, n 4, C 256 and mode 0
pub record Memory (b f m v : ℕ) : Type 0 where
  pub bases : b ≡ 256
  pub faces : f ≡ 256
  pub marks : m ≡ 4
  pub vectors : v ≡ 8192

-- how much of it a geometry uses, and that there is room
pub record Parts (g : Session) (l : Lengths) : Type 0 where
  pub bases : l.bases ≡ bases_len g.d g.n
  pub faces : l.faces ≡ face_words g.d g.n g.cap
  pub marks : l.marks ≡ set_words g.cap
  pub vectors : l.vectors ≡ vector_bytes g.d g.cap g.mode
  pub few_bases : l.bases ≤ 256
  pub few_faces : l.faces ≤ 256
  pub few_marks : l.marks ≤ 4
  pub few_vectors : l.vectors ≤ 8192

pub record Mem : Type 0 where
  pub bases : List Float
  pub ix : Ix

abbrev pub memory_of : List Float → List ℕ → List ℕ → List ℕ → Mem
memory_of b f m v = record { bases = b; ix = ix_of f m v }

abbrev pub geo_of : Session → Geo
geo_of g = geo g.d g.n g.cap g.mode

-- the bases and the index in the front of the memory
abbrev pub front_bases : Session → Mem → List Float
front_bases g m = take (bases_len g.d g.n) m.bases

abbrev pub front : Session → Mem → Ix
front g m =
    ix_of (take (face_words g.d g.n g.cap) m.ix.faces) (take (set_words g.cap) m.ix.marks)
    (take (vector_bytes g.d g.cap g.mode) m.ix.vecs)

-- the memory with another index in its front
abbrev pub with_front : Session → Mem → Ix → Mem
with_front g m x =
    memory_of m.bases (x.faces ++ drop (face_words g.d g.n g.cap) m.ix.faces) (x.marks ++ drop (set_words g.cap) m.ix.marks)
    (x.vecs ++ drop (vector_bytes g.d g.cap g.mode) m.ix.vecs)

abbrev pub zero_f : Float
zero_f = of_bits binary32 0

-- ---- an addition: its answer, and the memory after it

abbrev pub answered : Session → Mem → Added → ℕ × Mem
answered g m a = (a.answer, with_front g m a.ix)

unfoldable pub added_by : List Float → List Float → Session → ℕ → Mem → ℕ × Mem
added_by v work g id m = answered g m (add_of (geo_of g) (front_bases g m) id v (front g m) work)

-- that of a record, whose vector stands behind its kind and its id
unfoldable pub added_of : List ℕ → Session → ℕ → Mem → ℕ × Mem
added_of s g id m = added_by (floats_at g.d s 6) (replicate g.d zero_f) g id m

-- ---- a search: its answer; it changes no memory of the program's

unfoldable pub found_by : List Float → List Float → List ℕ → List ℕ → Session → ℕ → ℕ → ℕ → Mem → Nearest
found_by v work layers set g k wanted spill m =
    (search_of (geo_of g) (front_bases g m) (front g m) v k wanted spill (works work layers set)).answer

-- that of a record, whose vector stands behind its kind, k, search_k and spill
unfoldable pub found_of : List ℕ → Session → ℕ → ℕ → ℕ → Mem → Nearest
found_of s g k wanted spill m =
    found_by (floats_at g.d s 10) (replicate g.d zero_f) (replicate (g.n * set_words g.cap) 0) (replicate (set_words g.cap) 0) g k wanted spill m
