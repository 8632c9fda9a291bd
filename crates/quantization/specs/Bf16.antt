-- bf16, the upper half of a binary32 (01, "bf16"), on bits.
use Rattle.std.specs.Prelude.{◌≡◌, ◌≢◌, ℕ, ◌+◌, ◌-◌, ◌*◌, ◌/◌, ◌%◌, ◌≤◌}
use Rattle.std.specs.Int.Bits.{bit_or}
use Rattle.std.specs.Float.{binary32}
use Rattle.std.specs.Float.Ieee.{nan_bits}
use Rattle.std.specs.Float.Ieee.Nearest.{closest}
use Rattle.paper.specs.Choice.{pick}
use Rattle.sqrt.specs.Root.{mag}

-- Lowering: the upper 16 bits, one more where the rest is above one half, or is one half and they are odd; of a NaN its upper half and bit 0040.
-- (`closest b 65536` is the whole number nearest to b / 65536, of two the even one. That this is the nearest half by value is
-- `Nearest` below, and the law `lowered_nearest`.)
unfoldable pub lowered : ℕ → ℕ
lowered b = pick (nan_bits binary32 b) (bit_or (b / 65536) 0x40) (closest b 65536)

-- Widening: 16 zeros appended.
unfoldable pub widened : ℕ → ℕ
widened h = h * 65536

-- ---- what "rounded to nearest, ties to even" says, over whole numbers: sizes are in units of 2^-149 (`mag` of crate sqrt)

-- how far two sizes are apart
abbrev pub gap : ℕ → ℕ → ℕ
gap a b = (a - b) + (b - a)

-- how far the half k, sign clear, is from the pattern b in size. (7F80, the infinity, stands where the next value would be.)
abbrev pub off : ℕ → ℕ → ℕ
off b k = gap (mag (k * 65536)) (mag (b % 0x8000_0000))

-- h has the sign of b, no half is nearer to b in size, and if another half is as near, h is even. (A set sign bit negates: law
-- `sign_negates` of crate sqrt. So nearest in size, with the same sign, is nearest in value.)
pub record Nearest (b h : ℕ) : Type 0 where
  pub sign : h / 32768 ≡ b / 0x8000_0000
  pub near : (k : ℕ) → off b (h % 32768) ≤ off b k
  pub even : (k : ℕ) → k ≢ h % 32768 → off b (h % 32768) ≡ off b k → h % 2 ≡ 0
