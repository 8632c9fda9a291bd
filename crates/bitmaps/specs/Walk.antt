-- The rising walk over the ids of a set.
use Rattle.std.specs.Prelude.{ℕ, zero, suc, ◌≤◌, ◌<◌, ◌*◌, ◌-◌, ◌+◌, ◌≡◌, Option, Some, None, List, [], ◌∷◌, eqb, length}
use Rattle.paper.specs.Choice.{pick}
use Rattle.bitmaps.specs.Words.{has}

-- i in front of a list, where its digit is not 0
abbrev pub keep : ℕ → ℕ → List ℕ → List ℕ
keep zero i l = l
keep (suc d) i l = i ∷ l

-- the ids of s among the m numbers from `from` on, rising
unfoldable pub ids_in : ℕ → ℕ → List ℕ → List ℕ
ids_in zero from s = []
ids_in (suc m) from s = keep (has s from) from (ids_in m (suc from) s)

-- the ids of s at or after a place, rising
abbrev pub ids_from : List ℕ → ℕ → List ℕ
ids_from s from = ids_in (length s * 64 - from) from s

-- all ids of s, rising
abbrev pub ids_of : List ℕ → List ℕ
ids_of s = ids_in (length s * 64) 0 s

-- the next id: the first of those at or after the place
abbrev pub first_of : List ℕ → Option ℕ
first_of [] = None
first_of (i ∷ l) = Some i

-- the same, said by what the answer has to be: an id, not before the place, and none between; or none from the place on
abbrev pub NextIs : List ℕ → ℕ → Option ℕ → Type 0
NextIs s from (Some i) = (from ≤ i) × (i < length s * 64) × (has s i ≡ 1) × ((j : ℕ) → from ≤ j → j < i → has s j ≡ 0)
NextIs s from None = (j : ℕ) → from ≤ j → has s j ≡ 0

-- how often i stands in a list
unfoldable pub listed : ℕ → List ℕ → ℕ
listed i [] = 0
listed i (j ∷ l) = pick (eqb i j) 1 0 + listed i l

-- each number is greater than the one before it, and none is below `low`
unfoldable pub RisesFrom : ℕ → List ℕ → Type 0
RisesFrom low [] = Unit
RisesFrom low (i ∷ l) = (low ≤ i) × RisesFrom (suc i) l
