-- Numbers and floats in a record, little-endian (01, "The search program").
use Rattle.std.specs.Prelude.{ℕ, zero, suc, ◌+◌, List, [], ◌∷◌, Float}
use Rattle.std.specs.Float.Ieee.{of_bits}
use Rattle.std.specs.Float.{binary32}
use Rattle.quantization.specs.Bytes.{le_word}

-- the number of the two bytes at a place
abbrev pub u16_at : List ℕ → ℕ → ℕ
u16_at s at = le_word s at 2

-- the number of the four bytes at a place
abbrev pub u32_at : List ℕ → ℕ → ℕ
u32_at s at = le_word s at 4

-- k floats, the first at a place
unfoldable pub floats_at : ℕ → List ℕ → ℕ → List Float
floats_at zero s at = []
floats_at (suc k) s at = of_bits binary32 (u32_at s at) ∷ floats_at k s (at + 4)
