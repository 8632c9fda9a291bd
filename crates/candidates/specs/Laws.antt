-- The laws of the candidates, for all inputs: where an id stands in a face set, what a union has, what a layer has, and that nothing is dropped.
use Rattle.std.specs.Prelude.{ℕ, ◌*◌, ◌-◌, ◌%◌, ◌<◌, ◌≤◌, min, ◌≡◌, List, Float, length}
use Rattle.paper.specs.Geometry.{set_words}
use Rattle.index_memory.specs.Memory.{face_bit}
use Rattle.bitmaps.specs.Words.{has}
use Rattle.counting_bitmap.specs.Layers.{layer, times}
use Rattle.faces.specs.Slots.{slots, picks_of}
use Rattle.candidates.specs.Gathering.{faces_at, face_set, in_any, union_of, Query, unions_from, layers_of, dropped_of}

pub record Laws : Type 0 where
  -- One address: id is in the face set that a search takes for a basis's slot exactly if its bit is set where an addition sets it, bit
  -- (b * 2d + slot) * C + id of all face sets together. C is a multiple of 64, so each set begins with a word of its own.
  pub face_set_has : (fs : List ℕ) (d cap b slot id : ℕ) → cap % 64 ≡ 0 → slot < 2 * d → id < cap
      → has (face_set (set_words cap) (faces_at fs d (set_words cap) b) slot) id ≡ has fs (face_bit d cap b slot id)
  -- An id is in a basis's union exactly if one of the picked face sets has it.
  pub union_has : (picks w : ℕ) (fs : List ℕ) (p : List Float) (id : ℕ) → 1 ≤ length p → length fs ≡ 2 * length p * w
      → has (union_of picks w fs p) id ≡ in_any w fs (slots picks p) id
  -- A larger spill takes no id out of a union; a spill at or above d counts as d - 1.
  pub spill_grows : (d s t w : ℕ) (fs : List ℕ) (p : List Float) (id : ℕ) → s ≤ t → 1 ≤ length p → length fs ≡ 2 * length p * w
      → has (union_of (picks_of d s) w fs p) id ≤ has (union_of (picks_of d t) w fs p) id
  -- Layer j of a search has exactly the ids that are in more than j of the bases' unions.
  pub layer_counts : (n : ℕ) (q : Query) (id j : ℕ) → j < n → has (layer q.w (layers_of n q) j) id ≡ min 1 (times (unions_from q n 0) id - j)
  -- A search drops nothing: it merges as many unions as it has layers.
  pub search_drops_none : (n : ℕ) (q : Query) → dropped_of n q ≡ 0
