-- Floats and their bits: a NaN has one pattern, and a NaN's pattern is a NaN. Assumes nothing.
use mathlib.Core.Path.{◌≡◌, refl, sym, ◌∙◌, subst}
use mathlib.Core.Bool.{Bool, true, not}
use Prim.Native.Nat.{ℕ, ◌%◌, ◌≤◌, ◌<◌}
use lib.Dec.{T}
use lib.Ieee.{Float, nan, inf, fin, binary32, is_nan, of_bits, to_bits, nan_bits}
use lib.Ieee.Bits.{nan_bits_is, nan_bits_above}
use borrow.Author.Tests.{lt-ltb, le-ltb}

is_nan_lem : (x : Float) → is_nan x ≡ true → x ≡ nan
unfolding is_nan
is_nan_lem nan e = refl
is_nan_lem (inf s) e = absurd (subst T (sym e) tt)
is_nan_lem (fin s m k) e = absurd (subst T (sym e) tt)

pub nan_bits_lem : to_bits binary32 nan ≡ 2143289344
unfolding to_bits
nan_bits_lem = refl

pub reads_nan : (n : ℕ) → 2139095040 < n % 2147483648 → of_bits binary32 n ≡ nan
reads_nan n h = is_nan_lem (of_bits binary32 n) (sym (nan_bits_is binary32 n) ∙ nan_bits_above binary32 n ∙ lt-ltb 2139095040 (n % 2147483648) h)

pub reads_number : (n : ℕ) → n % 2147483648 ≤ 2139095040 → T (not (nan_bits binary32 n))
reads_number n h = subst (λ (b : Bool). T (not b)) (sym (nan_bits_above binary32 n ∙ le-ltb 2139095040 (n % 2147483648) h)) tt
