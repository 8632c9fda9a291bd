-- Ranking: the ids of a set in rising order, each fed with its distance from the target; the first fault decides (01, "Refusal numbers" and "Store and search").
use Rattle.std.specs.Prelude.{ℕ, ◌*◌, ◌≤◌, ◌≡◌, List, [], ◌∷◌, Float, length}
use Rattle.std.specs.Float.Ieee.{is_nan}
use Rattle.paper.specs.Choice.{pick}
use Rattle.index_memory.specs.Memory.{slot_bytes, slot_at}
use Rattle.bitmaps.specs.Words.{holds}
use Rattle.bitmaps.specs.Walk.{ids_of}
use Rattle.vector.specs.Fold.{squares_of}
use Rattle.sqrt.specs.RootOf.{root}
use Rattle.quantization.specs.Stored.{components}
use Rattle.result.specs.Ranked.{Entry, entry}
use Rattle.result.specs.Sets.{Fed, empty_set, fed_set, answer}
use Rattle.result.specs.declared.ResultSet.{ResultSet}

-- the score of an id: the distance of the target, as given, from the components that the id's slot holds
unfoldable pub similarity_of : ℕ → List ℕ → List Float → ℕ → Float
similarity_of mode vs t i = root (squares_of t (components mode vs (slot_at (length t) mode i) (length t)))

-- a refused list: empty, with k 0 and checked 0
abbrev pub refused : ℕ → Fed
refused num = answer num (empty_set 0)

-- an id and its score
abbrev pub scored : (ℕ → Float) → ℕ → Entry
scored f i = entry i (f i)

-- the ids in turn, scored by f: 9 for one that has no mark, 10 for one whose score is NaN, else it is fed
unfoldable pub ranking : List ℕ → (ℕ → Float) → ResultSet → List ℕ → Fed
ranking ms f s [] = answer 0 s
ranking ms f s (i ∷ is) =
    pick (holds ms i)
    (pick (is_nan (f i)) (refused 10) (ranking ms f (fed_set s (scored f i)) is))
    (refused 9)

-- the ids of a set, ranked into a list of at most k
unfoldable pub rank_of : ℕ → ℕ → List ℕ → List ℕ → List ℕ → List Float → Fed
unfolding similarity_of ranking
rank_of mode k s ms vs t = ranking ms (similarity_of mode vs t) (empty_set k) (ids_of s)

-- the same where no mark is asked for
unfoldable pub feeding : (ℕ → Float) → ResultSet → List ℕ → Fed
feeding f s [] = answer 0 s
feeding f s (i ∷ is) = pick (is_nan (f i)) (refused 10) (feeding f (fed_set s (scored f i)) is)

-- every present id, ranked
unfoldable pub nearest_of : ℕ → ℕ → List ℕ → List ℕ → List Float → Fed
unfolding similarity_of feeding
nearest_of mode k ms vs t = feeding (similarity_of mode vs t) (empty_set k) (ids_of ms)

-- what ranking asks of the lengths of the set, the marks, the vectors and the target
pub record RankArgs (mode k ls lm lv lt : ℕ) : Type 0 where
  pub k_high : k ≤ 256
  pub set : ls ≤ 1024
  pub marks : lm ≡ ls
  pub d_low : 1 ≤ lt
  pub d_high : lt ≤ 1024
  pub vectors : lv ≡ ls * 64 * slot_bytes lt mode
