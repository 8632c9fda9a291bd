-- The laws of an accepted search, for all inputs. Any lent word is below 2^64, which the count asks.
use Rattle.std.specs.Prelude.{ℕ, ◌^◌, ◌<◌, min, ◌≡◌, true, List, Float, length, get_or}
use Rattle.paper.specs.Geometry.{Geo}
use Rattle.index_memory.specs.Memory.{Ix}
use Rattle.bitmaps.specs.Words.{has, size}
use Rattle.counting_bitmap.specs.Layers.{layer}
use Rattle.counting_bitmap.specs.TopLayer.{Highest}
use Rattle.result.specs.Ranked.{larger, in_order, Outcome}
use Rattle.result.specs.Sets.{entries_of, well_formed}
use Rattle.backend_memory.specs.Ranking.{similarity_of, scored}
use Rattle.backend_memory.specs.Listed.{Each, TrueEntry}
use Rattle.candidates.specs.Gathering.{Query, layers_of}
use Rattle.vector_store.specs.Search.{Work, Nearest, searched_by, search_of, AcceptedSearch}

pub record Laws : Type 0 where
  -- A search that answers 0 chose a layer and ranked its ids, and dropped nothing. The laws below are of such an answer r.
  pub search_accepted : (g : Geo) (bs : List Float) (ix : Ix) (t : List Float) (k sk spill : ℕ) (m : Work) → (search_of g bs ix t k sk spill m).answer.refusal ≡ 0
      → AcceptedSearch g.n g.mode k sk (searched_by g bs ix t spill) ix.marks ix.vecs (search_of g bs ix t k sk spill m).answer
  -- The chosen layer has at least search_k ids, and none above it has.
  pub chosen_highest : (n mode k sk : ℕ) (q : Query) (ms vs : List ℕ) (r : Nearest) (a : AcceptedSearch n mode k sk q ms vs r)
      → Highest n q.w (layers_of n q) sk a.at
  -- Checked is the number of ids in the chosen layer.
  pub found_checked : (n mode k sk : ℕ) (q : Query) (ms vs : List ℕ) (r : Nearest) (a : AcceptedSearch n mode k sk q ms vs r)
      → ((i : ℕ) → get_or q.faces i 0 < 2 ^ 64) → r.set.checked ≡ size (layer q.w (layers_of n q) a.at)
  -- Each listed id is in the chosen layer, has its mark, and has the score that its stored bytes give.
  pub found_listed : (n mode k sk : ℕ) (q : Query) (ms vs : List ℕ) (r : Nearest) (a : AcceptedSearch n mode k sk q ms vs r)
      → Each (TrueEntry (layer q.w (layers_of n q) a.at) ms (similarity_of mode vs q.target)) (entries_of r.set)
  -- Scores never rise along the list.
  pub found_order : (n mode k sk : ℕ) (q : Query) (ms vs : List ℕ) (r : Nearest) (a : AcceptedSearch n mode k sk q ms vs r)
      → in_order larger (entries_of r.set) ≡ true
  -- The list is as long as checked says, and no longer than k.
  pub found_long : (n mode k sk : ℕ) (q : Query) (ms vs : List ℕ) (r : Nearest) (a : AcceptedSearch n mode k sk q ms vs r)
      → length (entries_of r.set) ≡ min k r.set.checked
  -- No better candidate is missed: each id of the chosen layer is listed with its score, or the list is full and no listed score is smaller.
  pub found_best : (n mode k sk : ℕ) (q : Query) (ms vs : List ℕ) (r : Nearest) (a : AcceptedSearch n mode k sk q ms vs r)
      → (id : ℕ) → has (layer q.w (layers_of n q) a.at) id ≡ 1 → Outcome larger k (entries_of r.set) (scored (similarity_of mode vs q.target) id)
  -- Whatever a search answers, its set is well formed.
  pub search_sound : (g : Geo) (bs : List Float) (ix : Ix) (t : List Float) (k sk spill : ℕ) (m : Work)
      → well_formed (search_of g bs ix t k sk spill m).answer.set ≡ true
