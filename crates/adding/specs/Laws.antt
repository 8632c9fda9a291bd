-- The laws of an accepted addition, for all inputs: what it puts into the index is there afterwards, and what other ids have stays.
use Rattle.std.specs.Prelude.{ℕ, ◌≤◌, ◌<◌, ◌≡◌, List, map, Float}
use Rattle.paper.specs.Geometry.{Geo}
use Rattle.index_memory.specs.Memory.{Ix, face_bit, slot_at, stored_at}
use Rattle.bitmaps.specs.Words.{has}
use Rattle.vector.specs.Norm.{normalized}
use Rattle.quantization.specs.Stored.{components, restored}
use Rattle.adding.specs.Adding.{face_slot, add_of}

pub record Laws : Type 0 where
  -- The id is in the face set of its vector's face, on each basis.
  pub added_face : (g : Geo) (bs : List Float) (id : ℕ) (v : List Float) (ix : Ix) (work : List Float) → (add_of g bs id v ix work).answer ≡ 0
      → (b : ℕ) → b < g.n → has (add_of g bs id v ix work).ix.faces (face_bit g.d g.cap b (face_slot g.d bs v b) id) ≡ 1
  -- No id is taken out of any face set.
  pub faces_stay : (g : Geo) (bs : List Float) (id : ℕ) (v : List Float) (ix : Ix) (work : List Float) → (add_of g bs id v ix work).answer ≡ 0
      → (k : ℕ) → has ix.faces k ≤ has (add_of g bs id v ix work).ix.faces k
  -- The id has its mark, ..
  pub added_mark : (g : Geo) (bs : List Float) (id : ℕ) (v : List Float) (ix : Ix) (work : List Float) → (add_of g bs id v ix work).answer ≡ 0
      → has (add_of g bs id v ix work).ix.marks id ≡ 1
  -- .. and every other id has the mark that it had.
  pub marks_stay : (g : Geo) (bs : List Float) (id : ℕ) (v : List Float) (ix : Ix) (work : List Float) → (add_of g bs id v ix work).answer ≡ 0
      → (j : ℕ) → (j ≡ id → ⊥) → has (add_of g bs id v ix work).ix.marks j ≡ has ix.marks j
  -- The id's slot reads back as the components of the normalised vector, each as the mode keeps it, ..
  pub stored_back : (g : Geo) (bs : List Float) (id : ℕ) (v : List Float) (ix : Ix) (work : List Float) → (add_of g bs id v ix work).answer ≡ 0
      → components g.mode (add_of g bs id v ix work).ix.vecs (slot_at g.d g.mode id) g.d ≡ map (restored g.mode) (normalized v)
  -- .. and every other slot keeps its bytes.
  pub stored_stay : (g : Geo) (bs : List Float) (id : ℕ) (v : List Float) (ix : Ix) (work : List Float) → (add_of g bs id v ix work).answer ≡ 0
      → (j : ℕ) → (j ≡ id → ⊥) → stored_at g.d g.mode (add_of g bs id v ix work).ix.vecs j ≡ stored_at g.d g.mode ix.vecs j
