-- Merging a second index into a first one (01, "Store and search").
use Rattle.std.specs.Prelude.{ℕ, zero, suc, ◌*◌, ◌≤◌, ◌≡◌, List, eqb, take, drop}
use Rattle.std.proofs.lemmas.List.Edits.{sets}
use Rattle.paper.specs.Choice.{◌and◌, pick, refuse}
use Rattle.paper.specs.Geometry.{Geo, geo_ok}
use Rattle.index_memory.specs.Memory.{Ix, ix_of, own_ok_ix, Done, done, slot_bytes}
use Rattle.bitmaps.specs.Words.{holds, union, shared, is_empty}

-- slots of `size` bytes, of which those of the marked ids among the first k are copied
unfoldable pub copied : ℕ → ℕ → List ℕ → List ℕ → List ℕ → List ℕ
copied size zero marks from vs = vs
copied size (suc i) marks from vs =
    pick (holds marks i) (sets (copied size i marks from vs) (i * size) (take size (drop (i * size) from))) (copied size i marks from vs)

-- face bits and marks are joined, and the second's marked vectors are copied
unfoldable pub merged_ix : Geo → Ix → Ix → Ix
merged_ix g a b =
    ix_of (union a.faces b.faces) (union a.marks b.marks) (copied (slot_bytes g.d g.mode) g.cap b.marks b.vecs a.vecs)

-- 1, 2 for a length of either index, 11 for an id that both have marked, or 0
unfoldable pub merge_refusal : Geo → Ix → Ix → ℕ
merge_refusal g a b =
    refuse 1 (geo_ok g.d g.n g.cap g.mode)
    (refuse 2 (own_ok_ix g a and own_ok_ix g b)
    (refuse 11 (is_empty (shared a.marks b.marks)) 0))

-- a refusal changes nothing
unfoldable pub merge_of : Geo → Ix → Ix → Done
merge_of g a b = let r = merge_refusal g a b in done r (pick (eqb r 0) (merged_ix g a b) a)

-- ---- what the private functions ask

pub record CopyArgs (size lv lf lm : ℕ) : Type 0 where
  pub size_high : size ≤ 4096
  pub marks_high : lm ≤ 1024
  pub vectors : lv ≡ lm * 64 * size
  pub from : lf ≡ lm * 64 * size
