-- Orders of additions, and deals of them to several indexes (demand 3). Everything is said with the definitions that the contracts of
-- add_vector, new_vector_store and merge cite: add_of, empty_ix, merge_of.
use Rattle.std.specs.Prelude.{ℕ, ◌≡◌, List, [], ◌∷◌, ◌++◌, Float, length, true}
use Rattle.paper.specs.Geometry.{Geo, geo_ok}
use Rattle.index_memory.specs.Memory.{Ix, empty_ix, own_ok, float_zeros}
use Rattle.adding.specs.Adding.{add_of}
use Rattle.merging.specs.Merging.{merge_of}

-- what is added: a vector under an id
pub record Addition : Type 0 where
  pub id : ℕ
  pub v : List Float

-- one call of add_vector: the addition, and the work memory that the call is lent, whatever it holds
pub record Call : Type 0 where
  pub what : Addition
  pub work : List Float

abbrev pub whats : List Call → List Addition
whats [] = []
whats (c ∷ cs) = c.what ∷ whats cs

-- each call is lent work memory of the right length
abbrev pub WorkLent : Geo → List Call → Type 0
WorkLent g [] = Unit
WorkLent g (c ∷ cs) = (length c.work ≡ g.d) × WorkLent g cs

-- ---- one geometry and fixed bases

module _ (g : Geo) (bs : List Float) where
  -- the answer of a call, and the index after it
  unfoldable pub answer : Call → Ix → ℕ
  answer c ix = (add_of g bs c.what.id c.what.v ix c.work).answer

  unfoldable pub step : Call → Ix → Ix
  step c ix = (add_of g bs c.what.id c.what.v ix c.work).ix

  -- one call after another; what is refused changes nothing
  unfoldable pub run : List Call → Ix → Ix
  run [] ix = ix
  run (c ∷ more) ix = run more (step c ix)

-- ---- orders

-- the same additions in another order
pub data Shuffle : List Addition → List Addition → Type 0 where
  none : Shuffle [] []
  keep : {a : Addition} {xs ys : List Addition} → Shuffle xs ys → Shuffle (a ∷ xs) (a ∷ ys)
  swap : {a b : Addition} {xs : List Addition} → Shuffle (a ∷ b ∷ xs) (b ∷ a ∷ xs)
  then : {xs ys zs : List Addition} → Shuffle xs ys → Shuffle ys zs → Shuffle xs zs

-- no addition has the id k; no id stands twice
abbrev pub Fresh : ℕ → List Addition → Type 0
Fresh k [] = Unit
Fresh k (a ∷ more) = (a.id ≡ k → ⊥) × Fresh k more

abbrev pub Distinct : List Addition → Type 0
Distinct [] = Unit
Distinct (a ∷ more) = Fresh a.id more × Distinct more

-- ---- deals

-- calls dealt to empty indexes, which are merged two by two, in any order and grouping
pub data Deal : Type 0 where
  one : List Call → Deal
  two : Deal → Deal → Deal

abbrev pub dealt : Deal → List Call
dealt (one cs) = cs
dealt (two l r) = dealt l ++ dealt r

module _ (g : Geo) (bs : List Float) where
  -- the index that the merges leave
  unfoldable pub built : Deal → Ix
  built (one cs) = run g bs cs (empty_ix g)
  built (two l r) = (merge_of g (built l) (built r)).ix

  -- every merge on the way answers 0
  abbrev pub AllAccepted : Deal → Type 0
  AllAccepted (one cs) = Unit
  AllAccepted (two l r) = ((merge_of g (built l) (built r)).answer ≡ 0) × AllAccepted l × AllAccepted r

-- the calls of a list of additions, each lent zeros, and what they make of an empty index
abbrev pub calls : Geo → List Addition → List Call
calls g [] = []
calls g (a ∷ more) = record { what = a; work = float_zeros g.d } ∷ calls g more

abbrev pub addition : ℕ → List Float → Addition
addition id v = record { id = id; v = v }

unfoldable pub filled : Geo → List Float → List Addition → Ix
filled g bs xs = run g bs (calls g xs) (empty_ix g)

-- what filling an index asks: a good geometry, the lengths of the index, d floats of work memory. A wrong length of bases or vector, or an id
-- too high, is an addition's refusal.
pub record FillArgs (g : Geo) (lf lm lv lw : ℕ) : Type 0 where
  pub good : geo_ok g.d g.n g.cap g.mode ≡ true
  pub own : own_ok g.d g.n g.cap g.mode lf lm lv ≡ true
  pub work : lw ≡ g.d

pub record PairArgs (g : Geo) (i j lf lm lv lf2 lm2 lv2 lw : ℕ) : Type 0 where
  pub first : FillArgs g lf lm lv lw
  pub second : FillArgs g lf2 lm2 lv2 lw
  pub apart : i ≡ j → ⊥
