-- What it means that entries fed in turn to an empty set leave a list: the shape of a worked example.
use Rattle.std.specs.Prelude.{ℕ, ◌≡◌, List}
use Rattle.result.specs.Ranked.{Entry}
use Rattle.result.specs.Sets.{entries_of, empty_set, feed_all_of}

-- an empty set with k, fed the entries in turn: each is accepted, the set then holds the list, and checked is n
pub record Leaves (k : ℕ) (feeds list : List Entry) (n : ℕ) : Type 0 where
  pub accepted : (feed_all_of (empty_set k) feeds).refusal ≡ 0
  pub lists : entries_of (feed_all_of (empty_set k) feeds).set ≡ list
  pub counts : (feed_all_of (empty_set k) feeds).set.checked ≡ n
