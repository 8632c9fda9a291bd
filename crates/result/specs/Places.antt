-- What the search for a new entry's place answers.
use Rattle.std.specs.Prelude.{ℕ, zero, suc, ◌≤◌, ◌-◌, Bool, ◌≡◌, Option, Some, None, List, [], ◌∷◌, eqb, leb, get_or, Float}
use Rattle.std.specs.Float.{nan}
use Rattle.paper.specs.Choice.{◌and◌}
use Rattle.result.specs.Lists.{insert_at}
use Rattle.result.specs.Ranked.{Entry, entry, larger, placed}

-- the first n places of two arrays, as entries
abbrev pub entries : ℕ → List ℕ → List Float → List Entry
entries zero is ss = []
entries (suc n) [] ss = []
entries (suc n) (i ∷ is) [] = []
entries (suc n) (i ∷ is) (s ∷ ss) = entry i s ∷ entries n is ss

-- the list with the entry at the place
abbrev pub put : Option ℕ → Entry → List Entry → List Entry
put (Some i) e xs = insert_at i e xs
put None e xs = xs

-- the place is within the list, or at its end
abbrev pub Within : ℕ → Option ℕ → Type 0
Within n (Some i) = i ≤ n
Within n None = Unit

-- a place for the entry among the first n of two arrays: there it stands as the walk says
pub record Found (n : ℕ) (ids : List ℕ) (sims : List Float) (e : Entry) (p : Option ℕ) : Type 0 where
  pub within : Within n p
  pub same : put p e (entries n ids sims) ≡ placed larger e (entries n ids sims)

-- whether a list of n is full and the last of its scores is greater than x
abbrev pub full_above : ℕ → ℕ → List Float → Float → Bool
full_above n k sims x = eqb n k and leb 1 n and larger (get_or sims (n - 1) nan) x
