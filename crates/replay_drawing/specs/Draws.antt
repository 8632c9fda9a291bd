-- The generator that the recorded runs were drawn by, and what is drawn from it.
use Rattle.std.specs.Prelude.{◌≡◌, ℕ, zero, suc, ◌+◌, ◌*◌, ◌%◌, List, [], ◌∷◌, pos, ◌==◌, from_bits, Float}
use Rattle.std.specs.Float.{binary32}
use Rattle.std.specs.Float.Ieee.{of_int, sub, mul}
use Rattle.paper.specs.Choice.{pick}
use Rattle.ortho.specs.Ortho.{written, orthonormalized}

-- one step: the draw is the new place
abbrev pub next_of : ℕ → ℕ
next_of s = 48271 * s % 2147483647

-- the component of a draw: one of the 2 grain + 1 whole numbers around 0, times the scale
abbrev pub component_of : ℕ → ℕ → Float → Float
component_of s grain scale = mul binary32 (sub binary32 (of_int binary32 (pos (s % (2 * grain + 1)))) (of_int binary32 (pos grain))) scale

-- where the generator stands after k draws
unfoldable pub after_draws : ℕ → ℕ → ℕ
after_draws zero s = s
after_draws (suc k) s = after_draws k (next_of s)

-- k drawn components
unfoldable pub components_of : ℕ → ℕ → ℕ → Float → List Float
components_of zero s grain scale = []
components_of (suc k) s grain scale = component_of (next_of s) grain scale ∷ components_of k (next_of s) grain scale

-- k components were drawn into a list, and the generator moved on by as many
pub record Draws (k seed grain : ℕ) (scale : Float) (out : List Float) (r : ℕ) : Type 0 where
  pub list : out ≡ components_of k seed grain scale
  pub place : r ≡ after_draws k seed

-- the id of a draw, below the capacity; 0 where there is none
unfoldable pub id_of : ℕ → ℕ → ℕ
id_of s cap = pick (cap == 0) 0 (s % cap)

-- every basis is drawn with this scale, 1/64
abbrev pub basis_scale : Float
basis_scale = from_bits binary32 1015021568

-- one basis was drawn, of k components, and orthonormalised into a second list, with the number of a refusal; where the generator stands then
pub record BasisDrawn (k d rounds seed grain : ℕ) (old new : List Float) (fault r : ℕ) : Type 0 where
  pub basis : written fault new ≡ orthonormalized d rounds (components_of k seed grain basis_scale) old
  pub place : r ≡ after_draws k seed
