-- The square root of a binary32 pattern as a function that computes, for the definitions of other crates to cite.
-- That it is the root of specs/Root.antt, and the only one, are the laws `root_of_is` and `sqrt_is` of specs/Laws.antt.
use Rattle.std.specs.Prelude.{ℕ, zero, suc, ◌+◌, ◌-◌, ◌*◌, ◌/◌, ◌%◌, ◌^◌, cond, leb, ltb, eqb, Float}
use Rattle.std.specs.Int.Count.{count_leading_zeros}
use Rattle.std.specs.Float.{binary32}
use Rattle.std.specs.Float.Ieee.{of_bits, to_bits}

-- the whole root of an n below 4 ^ k, a binary digit at a time
unfoldable pub whole_root : ℕ → ℕ → ℕ
whole_root zero n = 0
whole_root (suc k) n = let r = whole_root k (n / 4) * 2 in cond (leb ((r + 1) * (r + 1)) n) (r + 1) r

-- the root of m * 2 ^ (h + 24) units, for an m of 24 digits: a whole root of 25 digits, the last of which rounds
unfoldable pub root_scaled : ℕ → ℕ → ℕ
unfolding whole_root
root_scaled m h = (h + 1) / 2 * 8388608 + (whole_root 25 (m * cond (eqb (h % 2) 0) 67108864 33554432) + 1) / 2

-- by the exponent's field and the 23 digits: a subnormal is shifted up to 24 digits, a normal one gets its leading digit
unfoldable pub root_fields : ℕ → ℕ → ℕ
unfolding root_scaled count_leading_zeros
root_fields zero t = root_scaled (t * 2 ^ (count_leading_zeros 32 t - 8)) (125 - (count_leading_zeros 32 t - 8))
root_fields (suc x) t = root_scaled (t + 8388608) (suc x + 124)

-- by the classes
unfoldable pub root_of : ℕ → ℕ
unfolding root_fields
root_of b =
    cond (eqb (b % 0x8000_0000) 0) b
    (cond (eqb b 0x7f80_0000) b
    (cond (ltb b 0x7f80_0000) (root_fields (b / 8388608) (b % 8388608)) 0x7fc0_0000))

-- the root of a float, by its pattern: `IsRoot` of specs/FloatRoot.antt says what it is as a float (law `root_nearest`)
unfoldable pub root : Float → Float
unfolding root_of
root x = of_bits binary32 (root_of (to_bits binary32 x))
