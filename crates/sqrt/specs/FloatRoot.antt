-- The square root of a float: what `root x` is wherever a definition cites it, with no word of patterns. Sizes are counted in units of
-- 2^-149, the smallest value of binary32, as in specs/Root.antt. Definitions only.
use Rattle.std.specs.Prelude.{◌≡◌, Bool, true, false, ℕ, ◌+◌, ◌*◌, ◌^◌, ◌<◌, T, pos, Float}
use Rattle.std.specs.Float.{nan, inf, fin, binary32}
use Rattle.std.specs.Float.Ieee.{fits}
use Rattle.std.specs.Float.Ieee.Exact.{HasValue}

-- x is finite and n units in size, negative (-0 too) where s is true
abbrev pub Sized : Float → Bool → ℕ → Type 0
Sized x s n = HasValue x s n (2 ^ 149)

-- r is the float of binary32 nearest to the root of n units, which is √(n * 2^149) units: that root lies strictly on r's side of the
-- midpoint of r and any other float y that is not negative. (A negative one is farther away than zero is.) Midpoints are doubled and squared:
--   (p + q) / 2 < √(n * 2^149) for a smaller y of p units, and the other way round for a larger one
pub record NearestRoot (n : ℕ) (r : Float) : Type 0 where
  pub fit : T (fits binary32 r)
  pub size : ℕ
  pub sized : Sized r false size
  pub smaller : (y : Float) (p : ℕ) → T (fits binary32 y) → Sized y false p → p < size → (p + size) * (p + size) < 4 * (n * 2 ^ 149)
  pub larger : (y : Float) (p : ℕ) → T (fits binary32 y) → Sized y false p → size < p → 4 * (n * 2 ^ 149) < (size + p) * (size + p)

-- r is the square root of x: a zero of either sign and +infinity are their own, a NaN and every other negative have none, and a number
-- above zero has the nearest float to its root
pub record IsRoot (x r : Float) : Type 0 where
  pub zeros : (s : Bool) → x ≡ fin s 0 (pos 0) → r ≡ x
  pub nearest : (n : ℕ) → 0 < n → Sized x false n → NearestRoot n r
  pub infinity : x ≡ inf false → r ≡ x
  pub negatives : (n : ℕ) → 0 < n → Sized x true n → r ≡ nan
  pub below_all : x ≡ inf true → r ≡ nan
  pub nans : x ≡ nan → r ≡ nan
