-- Normalising (01, "Vectors"): each component divided by the norm. Definitions only.
use Rattle.std.specs.Prelude.{ℕ, Bool, not, List, map, eqb, Float}
use Rattle.std.specs.Float.{binary32}
use Rattle.std.specs.Float.Ieee.{div, eq}
use Rattle.paper.specs.Choice.{◌and◌, pick, refuse}
use Rattle.sqrt.specs.RootOf.{root}
use Rattle.vector.specs.Fold.{dot_of, zero32}
use Rattle.vector.specs.Finite.{is_finite, every, all_finite}

-- the norm: the root of a vector's dot product with itself. (`root` is the float nearest to the root: law `root_nearest` of crate sqrt.)
unfoldable pub norm_of : List Float → Float
norm_of xs = root (dot_of xs xs)

-- each component divided by n
abbrev pub divided_by : Float → List Float → List Float
divided_by n xs = map (λ (x : Float). div binary32 x n) xs

-- each of those quotients is finite
abbrev pub all_finite_by : Float → List Float → Bool
all_finite_by n xs = every (λ (x : Float). is_finite (div binary32 x n)) xs

-- a norm to divide by: finite and not zero
abbrev pub usable : Float → Bool
usable n = is_finite n and not (eq n zero32)

-- 5 for a component that is not finite; then 6 for a norm that is zero or not finite, or a quotient that is not finite
unfoldable pub norm_number : List Float → ℕ
norm_number xs = refuse 5 (all_finite xs) (refuse 6 (usable (norm_of xs) and all_finite_by (norm_of xs) xs) 0)

-- the vector afterwards: the quotients where it is accepted, as it was where it is refused
unfoldable pub normalized : List Float → List Float
normalized xs = pick (eqb (norm_number xs) 0) (divided_by (norm_of xs) xs) xs

-- what normalising answers, and the vector that it leaves
pub record Normal : Type 0 where
  pub refusal : ℕ
  pub vector : List Float

abbrev pub normal : ℕ → List Float → Normal
normal num xs = record { refusal = num; vector = xs }
