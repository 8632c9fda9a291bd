-- The laws of an accepted merge, for all inputs: what the joined index has, bit by bit and slot by slot.
use Rattle.std.specs.Prelude.{ℕ, ◌<◌, min, max, ◌≡◌}
use Rattle.paper.specs.Choice.{pick}
use Rattle.paper.specs.Geometry.{Geo}
use Rattle.index_memory.specs.Memory.{Ix, stored_at}
use Rattle.bitmaps.specs.Words.{has, holds}
use Rattle.merging.specs.Merging.{merge_of}

pub record Laws : Type 0 where
  -- No id had a mark in both.
  pub marks_apart : (g : Geo) (a b : Ix) → (merge_of g a b).answer ≡ 0 → (i : ℕ) → min (has a.marks i) (has b.marks i) ≡ 0
  -- An id has its mark afterwards exactly if it had it in either, ..
  pub marks_joined : (g : Geo) (a b : Ix) → (merge_of g a b).answer ≡ 0 → (i : ℕ) → has (merge_of g a b).ix.marks i ≡ max (has a.marks i) (has b.marks i)
  -- .. and each bit of the face sets likewise.
  pub faces_joined : (g : Geo) (a b : Ix) → (merge_of g a b).answer ≡ 0 → (k : ℕ) → has (merge_of g a b).ix.faces k ≡ max (has a.faces k) (has b.faces k)
  -- A slot holds the second's bytes where the second has the mark, and the first's everywhere else.
  pub stored_joined : (g : Geo) (a b : Ix) → (merge_of g a b).answer ≡ 0 → (i : ℕ) → i < g.cap
      → stored_at g.d g.mode (merge_of g a b).ix.vecs i ≡ pick (holds b.marks i) (stored_at g.d g.mode b.vecs i) (stored_at g.d g.mode a.vecs i)
