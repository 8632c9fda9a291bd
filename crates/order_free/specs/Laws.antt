-- Demand 3, for all inputs: additions with different ids, in any order, dealt to any indexes and merged in any way. Whatever work memory the calls are lent doesn't matter.
use Rattle.std.specs.Prelude.{◌≡◌, true, List, Float, length}
use Rattle.paper.specs.Geometry.{Geo, geo_ok}
use Rattle.index_memory.specs.Memory.{Ix, empty_ix}
use Rattle.order_free.specs.Order.{Addition, Call, whats, WorkLent, answer, run, Shuffle, Distinct, Deal, dealt, built, AllAccepted}
use Rattle.order_free.specs.Grown.{Grown}

pub record Laws : Type 0 where
  -- An addition has the same answer after any additions to an empty index.
  pub answer_anywhere : (g : Geo) (bs : List Float) (cs ds : List Call) → WorkLent g cs → WorkLent g ds → (c d : Call) → length c.work ≡ g.d → length d.work ≡ g.d
      → c.what ≡ d.what → answer g bs c (run g bs cs (empty_ix g)) ≡ answer g bs d (run g bs ds (empty_ix g))
  -- Every order of additions with different ids gives the same index, byte for byte, from any index.
  pub run_shuffle : (g : Geo) (bs : List Float) (cs ds : List Call) → WorkLent g cs → WorkLent g ds → Shuffle (whats cs) (whats ds) → Distinct (whats cs)
      → (ix : Ix) → run g bs cs ix ≡ run g bs ds ix
  -- Dealt in any way to empty indexes, which are merged in any order and grouping, they give that index too, and every merge answers 0.
  pub any_deal : (g : Geo) (bs : List Float) → geo_ok g.d g.n g.cap g.mode ≡ true → (cs : List Call) → WorkLent g cs → Distinct (whats cs)
      → (t : Deal) → WorkLent g (dealt t) → Shuffle (whats cs) (whats (dealt t)) → (built g bs t ≡ run g bs cs (empty_ix g)) × AllAccepted g bs t
  -- Additions to an empty index leave the index that Grown says: demand 2's, bit by bit and slot by slot, ..
  pub grown_run : (g : Geo) (bs : List Float) (cs : List Call) → WorkLent g cs → Grown g bs (whats cs) (run g bs cs (empty_ix g))
  -- .. and Grown says it all: two indexes of which it holds are equal.
  pub grown_once : (g : Geo) (bs : List Float) → geo_ok g.d g.n g.cap g.mode ≡ true → (xs : List Addition) (a b : Ix) → Grown g bs xs a → Grown g bs xs b → a ≡ b
