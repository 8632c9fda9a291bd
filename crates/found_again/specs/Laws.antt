-- An id that is in the face set of a vector's own face, on each basis, is among the candidates of every search for that vector, as given, on the same bases, whatever
-- its spill and whatever else the index holds. An accepted addition puts its id there, and no later addition or merge takes it out.
-- (A search need not list the id: a list takes the k best of the candidates.)
use Rattle.std.specs.Prelude.{ℕ, ◌<◌, ◌≡◌, ◌⊎◌, true, List, Float, length}
use Rattle.paper.specs.Geometry.{Geo, GeoFacts, set_words, face_words}
use Rattle.index_memory.specs.Memory.{Ix, face_bit}
use Rattle.bitmaps.specs.Words.{has}
use Rattle.counting_bitmap.specs.Layers.{layer}
use Rattle.candidates.specs.Gathering.{Query, target_finite, union_at, layers_of}
use Rattle.vector_store.specs.Search.{Nearest, searched_by, AcceptedSearch}
use Rattle.adding.specs.Adding.{face_slot, add_of}
use Rattle.merging.specs.Merging.{merge_of}

-- The id's bit is set in the face set of v's own face, on each basis; and the lengths that this rests on are as a search tests them.
pub record InFaces (g : Geo) (bs : List Float) (id : ℕ) (v : List Float) (ix : Ix) : Type 0 where
  pub facts : GeoFacts g.d g.n g.cap g.mode
  pub faces : length ix.faces ≡ face_words g.d g.n g.cap
  pub vector : length v ≡ g.d
  pub id_low : id < g.cap
  pub bits : (b : ℕ) → b < g.n → has ix.faces (face_bit g.d g.cap b (face_slot g.d bs v b) id) ≡ 1

-- what a search for v goes by, right after v was added under id
abbrev pub after_adding : Geo → List Float → ℕ → List Float → Ix → List Float → ℕ → Query
after_adding g bs id v ix work spill = searched_by g bs (add_of g bs id v ix work).ix v spill

pub record Laws : Type 0 where
  -- ---- in any index that has the id in the face sets of v's face, a search for v
  -- has the id in the union of every basis, ..
  pub picked_anywhere : (g : Geo) (bs : List Float) (id : ℕ) (v : List Float) (ix : Ix) → InFaces g bs id v ix
      → (spill b : ℕ) → b < g.n → has (union_at (searched_by g bs ix v spill) b) id ≡ 1
  -- .. so in every layer, the highest too, ..
  pub layered_anywhere : (g : Geo) (bs : List Float) (id : ℕ) (v : List Float) (ix : Ix) → InFaces g bs id v ix
      → (spill j : ℕ) → j < g.n → has (layer (set_words g.cap) (layers_of g.n (searched_by g bs ix v spill)) j) id ≡ 1
  -- .. and so in the layer that an accepted search chooses, for whatever k and search_k.
  pub chosen_anywhere : (g : Geo) (bs : List Float) (id : ℕ) (v : List Float) (ix : Ix) → InFaces g bs id v ix
      → (k sk spill : ℕ) (ms vs : List ℕ) (r : Nearest) (a : AcceptedSearch g.n g.mode k sk (searched_by g bs ix v spill) ms vs r)
      → has (layer (set_words g.cap) (layers_of g.n (searched_by g bs ix v spill)) a.at) id ≡ 1
  -- ---- which indexes are such
  -- an index right after v was added under the id,
  pub adding_puts : (g : Geo) (bs : List Float) (id : ℕ) (v : List Float) (ix : Ix) (work : List Float) → (add_of g bs id v ix work).answer ≡ 0
      → InFaces g bs id v (add_of g bs id v ix work).ix
  -- one that was such before another accepted addition, whatever was added,
  pub adding_keeps : (g : Geo) (bs : List Float) (id : ℕ) (v : List Float) (ix : Ix) → InFaces g bs id v ix
      → (j : ℕ) (x work : List Float) → (add_of g bs j x ix work).answer ≡ 0 → InFaces g bs id v (add_of g bs j x ix work).ix
  -- and one merged of two of which either was such.
  pub merging_keeps : (g : Geo) (bs : List Float) (id : ℕ) (v : List Float) (a b : Ix) → InFaces g bs id v a ⊎ InFaces g bs id v b
      → (merge_of g a b).answer ≡ 0 → InFaces g bs id v (merge_of g a b).ix
  -- ---- so right after an addition of v, a search for v
  -- has no projection that is refused: 7 can't come of it,
  pub projects_again : (g : Geo) (bs : List Float) (id : ℕ) (v : List Float) (ix : Ix) (work : List Float) → (add_of g bs id v ix work).answer ≡ 0
      → (spill : ℕ) → target_finite (after_adding g bs id v ix work spill) g.n ≡ true
  -- has the id in the union of every basis, ..
  pub in_every_union : (g : Geo) (bs : List Float) (id : ℕ) (v : List Float) (ix : Ix) (work : List Float) → (add_of g bs id v ix work).answer ≡ 0
      → (spill b : ℕ) → b < g.n → has (union_at (after_adding g bs id v ix work spill) b) id ≡ 1
  -- .. in every layer, ..
  pub in_every_layer : (g : Geo) (bs : List Float) (id : ℕ) (v : List Float) (ix : Ix) (work : List Float) → (add_of g bs id v ix work).answer ≡ 0
      → (spill j : ℕ) → j < g.n → has (layer (set_words g.cap) (layers_of g.n (after_adding g bs id v ix work spill)) j) id ≡ 1
  -- .. and in the layer that an accepted search chooses.
  pub in_chosen_layer : (g : Geo) (bs : List Float) (id : ℕ) (v : List Float) (ix : Ix) (work : List Float) → (add_of g bs id v ix work).answer ≡ 0
      → (k sk spill : ℕ) (ms vs : List ℕ) (r : Nearest) (a : AcceptedSearch g.n g.mode k sk (after_adding g bs id v ix work spill) ms vs r)
      → has (layer (set_words g.cap) (layers_of g.n (after_adding g bs id v ix work spill)) a.at) id ≡ 1
