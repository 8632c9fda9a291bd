-- What a scan refuses, and what it answers (01, "Refusal numbers": 1, 2, 4, 5, then 10).
use Rattle.std.specs.Prelude.{ℕ, List, leb, eqb, Float, length}
use Rattle.paper.specs.Choice.{pick, refuse}
use Rattle.paper.specs.Geometry.{Geo, geo_ok}
use Rattle.index_memory.specs.Memory.{store_ok}
use Rattle.vector.specs.Finite.{all_finite}
use Rattle.result.specs.Sets.{Fed}
use Rattle.backend_memory.specs.Ranking.{refused, nearest_of}

-- 1, 2, 4 and 5 in their order, or 0; lm and lv are the lengths of marks and vectors
unfoldable pub scan_refusal : Geo → ℕ → ℕ → List Float → ℕ → ℕ
scan_refusal g lm lv t k =
    refuse 1 (geo_ok g.d g.n g.cap g.mode)
    (refuse 2 (store_ok g.d g.cap g.mode lm lv)
    (refuse 2 (eqb (length t) g.d)
    (refuse 4 (leb k 256) (refuse 5 (all_finite t) 0))))

-- the refusal, or every present id ranked
unfoldable pub scan_of : Geo → List ℕ → List ℕ → List Float → ℕ → Fed
scan_of g ms vs t k =
    let num = scan_refusal g (length ms) (length vs) t k in
    pick (eqb num 0) (nearest_of g.mode k ms vs t) (refused num)
