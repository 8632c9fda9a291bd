-- Which entry of a projection gives its face (01, "Face"): the one farthest from 0; where several are as far, one above 0
-- if there is one; and of those the first. Definitions only.
use Rattle.std.specs.Prelude.{ℕ, zero, suc, ◌<◌, ◌≡◌, Bool, true, not, ◌&&◌, ◌||◌, List, [], ◌∷◌, length, get_or, Float}
use Rattle.std.specs.Float.{nan}
use Rattle.std.specs.Float.Ieee.{lt, eq, neg}
use Rattle.paper.specs.Choice.{pick}
use Rattle.vector.specs.Fold.{zero32}
use Rattle.vector.specs.Finite.{every}

-- the absolute value. A zero keeps its sign, which no comparison sees
abbrev pub size_of : Float → Float
size_of x = pick (lt x zero32) (neg x) x

-- above zero: a zero counts as negative
abbrev pub positive : Float → Bool
positive x = lt zero32 x

-- y goes before x: it is greater in absolute value, or as great, and positive where x is not
unfoldable pub beats : Float → Float → Bool
beats y x = lt (size_of x) (size_of y) || (eq (size_of x) (size_of y) && (positive y && not (positive x)))

-- no entry beats x
abbrev pub unbeaten : List Float → Float → Bool
unbeaten xs x = every (λ (y : Float). not (beats y x)) xs

-- the first index, counted from i, at which p holds; 0 where there is none. (A finite projection has one: law `best_first`.)
unfoldable pub first_from : (Float → Bool) → ℕ → List Float → ℕ
first_from p i [] = zero
first_from p i (x ∷ xs) = pick (p x) i (first_from p (suc i) xs)

-- the first entry that none beats
unfoldable pub best_of : List Float → ℕ
best_of xs = first_from (unbeaten xs) zero xs

-- b is the index of the entry that gives the face: one of the list's, whose entry none beats, while it beats each entry before it
pub record First (xs : List Float) (b : ℕ) : Type 0 where
  pub low : b < length xs
  pub best : unbeaten xs (get_or xs b nan) ≡ true
  pub first : (k : ℕ) → k < b → beats (get_or xs b nan) (get_or xs k nan) ≡ true
