-- What makes an entry of a list true: its id is in the set that was ranked, has its mark, and has the score that its stored bytes give.
use Rattle.std.specs.Prelude.{ℕ, ◌≡◌, true, List, Float}
use Rattle.bitmaps.specs.Words.{has, holds}
pub use Rattle.result.specs.Lists.{Each, none, more}
use Rattle.result.specs.Ranked.{Entry}

-- an entry, by the ranked set, the marks and the score of each id
pub record TrueEntry (ids ms : List ℕ) (f : ℕ → Float) (e : Entry) : Type 0 where
  pub inside : has ids e.key ≡ 1
  pub marked : holds ms e.key ≡ true
  pub score : e.sim ≡ f e.key
