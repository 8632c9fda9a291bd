-- The projection of a vector on a basis: its dot product with each of the basis's vectors. Definitions only.
use Rattle.std.specs.Prelude.{ℕ, zero, suc, ◌+◌, ◌-◌, ◌*◌, ◌≡◌, List, [], ◌∷◌, length, take, drop, Float}
use Rattle.vector.specs.Fold.{dot_of}

-- the dot products of t with the n vectors of the basis from place a on, each as long as t
unfoldable pub dots_from : List Float → List Float → ℕ → ℕ → List Float
dots_from bs t a zero = []
dots_from bs t a (suc n) = dot_of t (take (length t) (drop a bs)) ∷ dots_from bs t (a + length t) n

-- entry r is the dot product of t with vector r of the basis, for each of its length t vectors
unfoldable pub projected : List Float → List Float → List Float
projected bs t = dots_from bs t 0 (length t)

-- the entries from r on
abbrev pub rows_from : List Float → List Float → ℕ → List Float
rows_from bs t r = dots_from bs t (r * length t) (length t - r)

-- the lengths of a basis, a vector and its projection
pub record Square (basis d work : ℕ) : Type 0 where
  pub rows : basis ≡ d * d
  pub room : work ≡ d
