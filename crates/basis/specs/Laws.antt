-- The laws of this crate, which `laws` claims: where the components of the bases stand, and what a projection holds.
use Rattle.std.specs.Prelude.{◌≡◌, true, List, ℕ, ◌+◌, ◌*◌, ◌<◌, length, get_or, take, drop, Float}
use Rattle.std.specs.Float.{nan}
use Rattle.vector.specs.Fold.{dot_of}
use Rattle.vector.specs.Finite.{all_finite}
use Rattle.basis.specs.Project.{projected}
use Rattle.basis.specs.Bases.{basis_at, projection_at, projections_finite}

pub record Laws : Type 0 where
  -- component c of vector r of basis b stands at (b d + r) d + c
  pub component_place : (bs : List Float) (d b r c : ℕ) → r < d → c < d → get_or (take d (drop (r * d) (basis_at bs d b))) c nan ≡ get_or bs ((b * d + r) * d + c) nan
  -- a projection is as long as the vector, and its entry r is the vector's dot product with vector r of the basis
  pub length_projected : (bs t : List Float) → length (projected bs t) ≡ length t
  pub entry_is_dot : (bs t : List Float) (r : ℕ) → r < length t → get_or (projected bs t) r nan ≡ dot_of t (take (length t) (drop (r * length t) bs))
  -- what is tested of the projections on n bases holds of each of them
  pub each_finite : (d : ℕ) (bs v : List Float) (n : ℕ) → projections_finite d bs v n ≡ true → (b : ℕ) → b < n → all_finite (projection_at d bs v b) ≡ true
