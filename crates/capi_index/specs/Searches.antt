-- A scan and a search with their lists in lent arrays. Definitions only.
use Rattle.std.specs.Prelude.{ℕ, List, [], ◌∷◌, Result, Ok, Err, eqb, Float}
use Rattle.paper.specs.Choice.{pick}
use Rattle.paper.specs.Geometry.{Geo, geo_ok}
use Rattle.paper.specs.Refusals.{number_of}
use Rattle.paper.specs.declared.Refusal.{Refusal}
use Rattle.index_memory.specs.Memory.{Ix}
use Rattle.backend_memory.specs.Scan.{scan_of}
use Rattle.result.specs.declared.ResultSet.{ResultSet}
use Rattle.vector_store.specs.Search.{Nearest, Work, search_of}
use Rattle.vector_store.specs.declared.Nearest.{Nearest as FoundList}
use Rattle.capi_sets.specs.Lists.{Outs, room_in, laid, Listed, listed, into_fed}

-- a scan: 1, then 2 for the arrays as well as for what the scan itself takes, then its other refusals
unfoldable pub scan_into : Geo → List ℕ → List ℕ → List Float → ℕ → Outs → Listed
scan_into g ms vs t k o =
    pick (geo_ok g.d g.n g.cap g.mode)
    (pick (room_in k 2 o) (into_fed (scan_of g ms vs t k) o) (listed 2 o))
    (listed 1 o)

-- ---- a search

-- the answer's number, the work memories, and the arrays
pub record Found : Type 0 where
  pub answer : ℕ
  pub memory : Work
  pub out : Outs

abbrev pub found : ℕ → Work → Outs → Found
found num m o = record { answer = num; memory = m; out = o }

-- told of a search: the list's length, checked, dropped
abbrev pub three_of : ResultSet → ℕ → List ℕ
three_of s dropped = s.len ∷ s.checked ∷ dropped ∷ []

-- an answer in the arrays: the list is laid into them; a refusal keeps them
abbrev pub put_nearest : Result FoundList Refusal → Outs → Listed
put_nearest (Ok a) o = listed 0 (laid a.set (three_of a.set a.dropped) o)
put_nearest (Err r) o = listed (number_of r) o

-- the same of what an answer is by the definitions
unfoldable pub into_nearest : Nearest → Outs → Listed
into_nearest a o = listed a.refusal (pick (eqb a.refusal 0) (laid a.set (three_of a.set a.dropped) o) o)

abbrev pub with_work : Work → Listed → Found
with_work m l = found l.answer m l.out

-- 1, then 2 for the arrays, which change nothing; else the search's own answer and work memories
unfoldable pub search_into : Geo → List Float → Ix → List Float → ℕ → ℕ → ℕ → Work → Outs → Found
search_into g bs ix t k sk spill m o =
    let s = search_of g bs ix t k sk spill m in
    pick (geo_ok g.d g.n g.cap g.mode)
    (pick (room_in k 3 o) (with_work s.memory (into_nearest s.answer o)) (found 2 m o))
    (found 1 m o)
