-- The laws of ranking and of the scan, for all inputs. Any lent word is below 2^64, which the counts ask.
use Rattle.std.specs.Prelude.{ℕ, ◌^◌, ◌<◌, min, ◌≡◌, true, List, Float, length, get_or}
use Rattle.paper.specs.Geometry.{Geo}
use Rattle.bitmaps.specs.Words.{has, size}
use Rattle.result.specs.Ranked.{larger, in_order, Outcome}
use Rattle.result.specs.Sets.{entries_of, well_formed}
use Rattle.backend_memory.specs.Ranking.{similarity_of, scored, rank_of, nearest_of}
use Rattle.backend_memory.specs.Scan.{scan_of}
use Rattle.backend_memory.specs.Listed.{Each, TrueEntry}

pub record Laws : Type 0 where
  -- An accepted ranking looks at every id of the set once: checked is the number of its ids.
  pub rank_checked : (mode k : ℕ) (ids ms vs : List ℕ) (t : List Float) → ((i : ℕ) → get_or ids i 0 < 2 ^ 64)
      → (rank_of mode k ids ms vs t).refusal ≡ 0 → (rank_of mode k ids ms vs t).set.checked ≡ size ids
  -- Each listed id is in the ranked set, has its mark, and has the score that its stored bytes give.
  pub rank_listed : (mode k : ℕ) (ids ms vs : List ℕ) (t : List Float) → (rank_of mode k ids ms vs t).refusal ≡ 0
      → Each (TrueEntry ids ms (similarity_of mode vs t)) (entries_of (rank_of mode k ids ms vs t).set)
  -- Scores never rise along the list.
  pub rank_order : (mode k : ℕ) (ids ms vs : List ℕ) (t : List Float) → (rank_of mode k ids ms vs t).refusal ≡ 0
      → in_order larger (entries_of (rank_of mode k ids ms vs t).set) ≡ true
  -- The list is as long as checked says, and no longer than k.
  pub rank_long : (mode k : ℕ) (ids ms vs : List ℕ) (t : List Float) → (rank_of mode k ids ms vs t).refusal ≡ 0
      → length (entries_of (rank_of mode k ids ms vs t).set) ≡ min k (rank_of mode k ids ms vs t).set.checked
  -- No better id is missed: each id of the ranked set is listed with its score, or the list is full and no listed score is smaller.
  pub rank_best : (mode k : ℕ) (ids ms vs : List ℕ) (t : List Float) → (rank_of mode k ids ms vs t).refusal ≡ 0
      → (id : ℕ) → has ids id ≡ 1 → Outcome larger k (entries_of (rank_of mode k ids ms vs t).set) (scored (similarity_of mode vs t) id)
  -- Ranking every present id is the ranking of the marks by themselves: 9 can't come of it.
  pub scan_ranks : (mode k : ℕ) (ms vs : List ℕ) (t : List Float) → rank_of mode k ms ms vs t ≡ nearest_of mode k ms vs t
  -- The same five for an accepted scan: checked is the number of marks, ..
  pub scan_checked : (g : Geo) (ms vs : List ℕ) (t : List Float) (k : ℕ) → ((i : ℕ) → get_or ms i 0 < 2 ^ 64)
      → (scan_of g ms vs t k).refusal ≡ 0 → (scan_of g ms vs t k).set.checked ≡ size ms
  -- .. each listed id has its mark and the score that its stored bytes give, ..
  pub scan_listed : (g : Geo) (ms vs : List ℕ) (t : List Float) (k : ℕ) → (scan_of g ms vs t k).refusal ≡ 0
      → Each (TrueEntry ms ms (similarity_of g.mode vs t)) (entries_of (scan_of g ms vs t k).set)
  -- .. scores never rise along the list, ..
  pub scan_order : (g : Geo) (ms vs : List ℕ) (t : List Float) (k : ℕ) → (scan_of g ms vs t k).refusal ≡ 0
      → in_order larger (entries_of (scan_of g ms vs t k).set) ≡ true
  -- .. the list is as long as checked says, and no longer than k, ..
  pub scan_long : (g : Geo) (ms vs : List ℕ) (t : List Float) (k : ℕ) → (scan_of g ms vs t k).refusal ≡ 0
      → length (entries_of (scan_of g ms vs t k).set) ≡ min k (scan_of g ms vs t k).set.checked
  -- .. and no better id is missed: each id that has a mark is listed with its score, or the list is full and no listed score is smaller.
  pub scan_best : (g : Geo) (ms vs : List ℕ) (t : List Float) (k : ℕ) → (scan_of g ms vs t k).refusal ≡ 0
      → (id : ℕ) → has ms id ≡ 1 → Outcome larger k (entries_of (scan_of g ms vs t k).set) (scored (similarity_of g.mode vs t) id)
  -- Whatever a scan answers, its set is well formed.
  pub scan_sound : (g : Geo) (ms vs : List ℕ) (t : List Float) (k : ℕ) → well_formed (scan_of g ms vs t k).set ≡ true
