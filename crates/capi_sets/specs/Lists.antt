-- Calls that write a list into lent arrays: ids, scores, and what is told beside them (01, "Refusal numbers"). Definitions only.
use Rattle.std.specs.Prelude.{ℕ, ◌≤◌, Bool, List, [], ◌∷◌, eqb, Float, length, Result, Ok, Err}
use Rattle.paper.specs.Choice.{◌and◌, pick}
use Rattle.paper.specs.Refusals.{number_of}
use Rattle.paper.specs.declared.Refusal.{Refusal}
use Rattle.result.specs.Places.{entries}
use Rattle.result.specs.Sets.{Fed, made_of, feed_all_of}
use Rattle.result.specs.declared.ResultSet.{ResultSet}
use Rattle.capi_vectors.specs.Single.{laid_over}

-- the lent arrays
pub record Outs : Type 0 where
  pub ids : List ℕ
  pub scores : List Float
  pub counts : List ℕ

abbrev pub outs : List ℕ → List Float → List ℕ → Outs
outs is ss ts = record { ids = is; scores = ss; counts = ts }

-- ids and scores have k places, and as many numbers are told as asked
unfoldable pub room_ok : ℕ → ℕ → ℕ → ℕ → ℕ → Bool
room_ok k m li ls lt = eqb li k and eqb ls k and eqb lt m

abbrev pub room_in : ℕ → ℕ → Outs → Bool
room_in k m o = room_ok k m (length o.ids) (length o.scores) (length o.counts)

-- a set's list in the first places of ids and scores, what lies beyond it kept, and the numbers told
abbrev pub laid : ResultSet → List ℕ → Outs → Outs
laid s ts o = outs (laid_over s.len s.ids o.ids) (laid_over s.len s.sims o.scores) ts

-- ---- a list and its count

-- the answer's number, and the arrays
pub record Listed : Type 0 where
  pub answer : ℕ
  pub out : Outs

abbrev pub listed : ℕ → Outs → Listed
listed num o = record { answer = num; out = o }

-- told of a set: its length, and how many entries it was fed
abbrev pub two_of : ResultSet → List ℕ
two_of s = s.len ∷ s.checked ∷ []

-- an answer in the arrays: the set is laid into them; a refusal keeps them
abbrev pub put_set : Result ResultSet Refusal → Outs → Listed
put_set (Ok s) o = listed 0 (laid s (two_of s) o)
put_set (Err r) o = listed (number_of r) o

-- the same of what an answer is by the definitions
unfoldable pub into_fed : Fed → Outs → Listed
into_fed f o = listed f.refusal (pick (eqb f.refusal 0) (laid f.set (two_of f.set) o) o)

-- a new set with k, fed the pairs of two arrays in turn: the first refusal decides
unfoldable pub feeding_of : ℕ → List ℕ → List Float → Fed
feeding_of k is ss =
    pick (eqb (made_of k).refusal 0) (feed_all_of (made_of k).set (entries (length is) is ss)) (made_of k)

-- the same into arrays: 2 for two arrays of unequal length, and for those that the list is laid into
unfoldable pub feed_into : ℕ → List ℕ → List Float → Outs → Listed
feed_into k is ss o =
    pick (eqb (length is) (length ss) and room_in k 2 o) (into_fed (feeding_of k is ss) o) (listed 2 o)

-- ---- what laying a set asks: its list has room
pub record Fits (s : ResultSet) (li ls : ℕ) : Type 0 where
  pub small : s.len ≤ 256
  pub ids : s.len ≤ li
  pub scores : s.len ≤ ls
