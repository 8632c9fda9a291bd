-- The square root of a binary32 pattern by whole numbers alone (01, "Square root"). No rounding, no float, no root is
-- needed to read this: a number q is the nearest to √n exactly if n lies between the squares of two midpoints.
--
-- `mag b` is the size of the pattern b, sign clear, in units of 2^-149, the smallest value of binary32. (At 7F800000 it is
-- 2^277, where the next value would be.) A pattern of size m has the value m / 2^149, and the root of that value is
-- √(m * 2^149) units. That sizes are IEEE 754's values is the law `value` of specs/Laws.antt.
use Rattle.std.specs.Prelude.{◌≡◌, ℕ, zero, suc, ◌+◌, ◌-◌, ◌*◌, ◌/◌, ◌%◌, ◌^◌, ◌<◌}

-- the size by the exponent's field and the 23 digits: a field of 0 has no leading digit, and else counts as a field of 1
unfoldable pub sized : ℕ → ℕ → ℕ
sized zero t = t
sized (suc x) t = (8388608 + t) * 2 ^ x

unfoldable pub mag : ℕ → ℕ
unfolding sized
mag b = sized (b / 8388608) (b % 8388608)

-- √n is nearer to q than to any other pattern: it lies strictly above the midpoint of q and the pattern below, and strictly
-- below the midpoint of q and the pattern above. Both midpoints are doubled and squared:
--   (mag (q - 1) + mag q) / 2 < √n < (mag q + mag (q + 1)) / 2
pub record Near (n q : ℕ) : Type 0 where
  pub above : (mag (q - 1) + mag q) * (mag (q - 1) + mag q) < 4 * n
  pub below : 4 * n < (mag q + mag (q + 1)) * (mag q + mag (q + 1))

-- q is the square root of b, both of them patterns: a zero of either sign and +infinity are their own, a NaN and every other
-- negative give 7FC00000, and any other pattern gives the finite one that is nearest
pub record Sqrt (b q : ℕ) : Type 0 where
  pub zeros : b % 0x8000_0000 ≡ 0 → q ≡ b
  pub root : 0 < b → b < 0x7f80_0000 → (q < 0x7f80_0000) × Near (mag b * 2 ^ 149) q
  pub infinity : b ≡ 0x7f80_0000 → q ≡ b
  pub nans : 0x7f80_0000 < b → b < 0x8000_0000 → q ≡ 0x7fc0_0000
  pub negatives : 0x8000_0000 < b → q ≡ 0x7fc0_0000
