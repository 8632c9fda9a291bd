-- What a search refuses, what it answers, and what it leaves in the work memories (01, "Refusal numbers" and "Store and search").
use Rattle.std.specs.Prelude.{ℕ, ◌*◌, ◌≤◌, ◌≡◌, Bool, true, Option, Some, None, Result, Ok, Err, List, leb, eqb, Float, length}
use Rattle.paper.specs.Choice.{◌and◌, pick, refuse}
use Rattle.paper.specs.Geometry.{Geo, GeoFacts, geo_ok, set_words, bases_len, face_words, vector_bytes}
use Rattle.paper.specs.Refusals.{number_of}
use Rattle.paper.specs.declared.Refusal.{Refusal}
use Rattle.index_memory.specs.Memory.{Ix, own_ok, bases_ok, float_zeros}
use Rattle.bitmaps.specs.Words.{empty}
use Rattle.counting_bitmap.specs.Layers.{layer}
use Rattle.counting_bitmap.specs.TopLayer.{top_of}
use Rattle.result.specs.Sets.{Fed, empty_set}
use Rattle.result.specs.declared.ResultSet.{ResultSet}
use Rattle.vector.specs.Finite.{all_finite}
use Rattle.faces.specs.Slots.{picks_of}
use Rattle.backend_memory.specs.Ranking.{rank_of}
use Rattle.candidates.specs.Gathering.{Query, query_of, target_finite, layers_of, dropped_of}
use Rattle.vector_store.specs.declared.Nearest.{Nearest as FoundList}

-- ---- the answer

-- a refusal's number, 0 for none, the list, and how many ids fell off the last layer
pub record Nearest : Type 0 where
  pub refusal : ℕ
  pub set : ResultSet
  pub dropped : ℕ

-- a refused search: an empty list with k 0 and checked 0, and no id dropped
abbrev pub refused : ℕ → Nearest
refused num = record { refusal = num; set = empty_set 0; dropped = 0 }

-- an answer of the call as these three
abbrev pub told_of : Result FoundList Refusal → Nearest
told_of (Ok found) = record { refusal = 0; set = found.set; dropped = found.dropped }
told_of (Err r) = refused (number_of r)

-- a ranking's answer, with the dropped total beside an accepted list
abbrev pub shown : ℕ → Fed → Nearest
shown dropped fed = pick (eqb fed.refusal 0) (record { refusal = 0; set = fed.set; dropped = dropped }) (refused fed.refusal)

-- the chosen layer's ids, ranked; 8 where no layer is chosen
abbrev pub ranked_by : ℕ → ℕ → ℕ → List ℕ → List ℕ → List ℕ → List Float → ℕ → Option ℕ → Nearest
ranked_by mode k w ls ms vs t dropped (Some i) = shown dropped (rank_of mode k (layer w ls i) ms vs t)
ranked_by mode k w ls ms vs t dropped None = refused 8

-- the chosen layer is the highest of n that has at least sk ids
unfoldable pub top_rank_of : ℕ → ℕ → ℕ → ℕ → ℕ → List ℕ → List ℕ → List ℕ → List Float → ℕ → Nearest
top_rank_of n mode k sk w ls ms vs t dropped = ranked_by mode k w ls ms vs t dropped (top_of n w ls sk)

-- 7 if an entry of any projection is not finite, else what is chosen of the layers that the bases' unions make
unfoldable pub found_of : ℕ → ℕ → ℕ → ℕ → Query → List ℕ → List ℕ → Nearest
found_of n mode k sk q ms vs =
    pick (target_finite q n)
    (top_rank_of n mode k sk q.w (layers_of n q) ms vs q.target (dropped_of n q))
    (refused 7)

-- ---- the whole call

-- the three work memories
pub record Work : Type 0 where
  pub work : List Float
  pub layers : List ℕ
  pub set : List ℕ

abbrev pub works : List Float → List ℕ → List ℕ → Work
works w l s = record { work = w; layers = l; set = s }

-- all zeros, of the same lengths
abbrev pub cleared : Work → Work
cleared m = works (float_zeros (length m.work)) (empty (length m.layers)) (empty (length m.set))

-- an answer, and the work memories afterwards
pub record Searched : Type 0 where
  pub answer : Nearest
  pub memory : Work

abbrev pub searched : Nearest → Work → Searched
searched a m = record { answer = a; memory = m }

-- the lengths of target, work, layers and set
unfoldable pub work_ok : ℕ → ℕ → ℕ → ℕ → ℕ → ℕ → ℕ → Bool
work_ok d n cap lt lw ll ls = eqb lt d and eqb lw d and eqb ll (n * set_words cap) and eqb ls (set_words cap)

-- 1 for the geometry, then 2 for the length of bases, face sets, marks, vectors, target, work, layers or set
unfoldable pub search_shape : Geo → ℕ → ℕ → ℕ → ℕ → ℕ → ℕ → ℕ → ℕ → ℕ
search_shape g lb lf lm lv lt lw ll ls =
    refuse 1 (geo_ok g.d g.n g.cap g.mode)
    (refuse 2 (own_ok g.d g.n g.cap g.mode lf lm lv)
    (refuse 2 (bases_ok g.d g.n lb)
    (refuse 2 (work_ok g.d g.n g.cap lt lw ll ls) 0)))

-- 1, 2, 4 and 5 in their order, or 0
unfoldable pub search_refusal : Geo → List Float → Ix → List Float → ℕ → Work → ℕ
search_refusal g bs ix t k m =
    let shape = search_shape g (length bs) (length ix.faces) (length ix.marks) (length ix.vecs) (length t) (length m.work) (length m.layers) (length m.set) in
    pick (eqb shape 0) (refuse 4 (leb k 256) (refuse 5 (all_finite t) 0)) shape

-- what the whole call goes by: the picks are the spill + 1 that it asks, at most d
abbrev pub searched_by : Geo → List Float → Ix → List Float → ℕ → Query
searched_by g bs ix t spill = query_of bs ix.faces t (set_words g.cap) (picks_of g.d spill)

-- refusals 1 to 5 change nothing; past them the work memories are all zeros, whatever the answer
unfoldable pub search_of : Geo → List Float → Ix → List Float → ℕ → ℕ → ℕ → Work → Searched
search_of g bs ix t k sk spill m =
    let num = search_refusal g bs ix t k m in
    pick (eqb num 0)
    (searched (found_of g.n g.mode k sk (searched_by g bs ix t spill) ix.marks ix.vecs) (cleared m))
    (searched (refused num) m)

-- ---- an accepted search

-- an answer that is not a refusal: every projection was finite, layer `at` was chosen, and its ids were ranked
pub record AcceptedSearch (n mode k sk : ℕ) (q : Query) (ms vs : List ℕ) (r : Nearest) : Type 0 where
  pub finite : target_finite q n ≡ true
  pub at : ℕ
  pub chosen : top_of n q.w (layers_of n q) sk ≡ Some at
  pub good : (rank_of mode k (layer q.w (layers_of n q) at) ms vs q.target).refusal ≡ 0
  pub ranked : r.set ≡ (rank_of mode k (layer q.w (layers_of n q) at) ms vs q.target).set
  pub dropped : r.dropped ≡ 0

-- ---- what a search past refusal 5 has of the lengths

pub record FindArgs (g : Geo) (k lb lf lm lv lt lw ll ls : ℕ) : Type 0 where
  pub facts : GeoFacts g.d g.n g.cap g.mode
  pub k_high : k ≤ 256
  pub bases : lb ≡ bases_len g.d g.n
  pub faces : lf ≡ face_words g.d g.n g.cap
  pub marks : lm ≡ set_words g.cap
  pub vectors : lv ≡ vector_bytes g.d g.cap g.mode
  pub target : lt ≡ g.d
  pub work : lw ≡ g.d
  pub layers : ll ≡ g.n * set_words g.cap
  pub set : ls ≡ set_words g.cap
