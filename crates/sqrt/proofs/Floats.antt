-- The root of a float. Assumes nothing.
use mathlib.Core.Path.{◌≡◌, refl, sym, ap, ◌∙◌, subst}
use mathlib.Core.Logic.{◌⊎◌, inl, inr, ⊎_elim}
use mathlib.Core.Bool.{Bool, false, not}
use Prim.Native.Nat.{ℕ, ◌%◌, ◌≤◌, ◌<◌}
use native.Mathlib.Decide.{dec_le, dec_lt}
use native.Mathlib.Omega.{arith}
use lib.Dec.{T}
use lib.Ieee.{Float, nan, inf, binary32, fits, of_bits, to_bits}
use lib.Ieee.Bits.{of_bits-fits, to_bits-lt, to_bits-of_bits, nan_bits_is}
use Rattle.sqrt.specs.Root.{Sqrt}
use Rattle.sqrt.specs.RootOf.{root_of, root}
use Rattle.sqrt.proofs.Function.{root_of_is}
use Rattle.sqrt.proofs.Bits.{nan_bits_lem, reads_nan, reads_number}

-- it is a float of binary32
pub root_fits : (x : Float) → T (fits binary32 (root x))
unfolding root
root_fits x = of_bits-fits binary32 (root_of (to_bits binary32 x))

pub root_zero : root (of_bits binary32 0) ≡ of_bits binary32 0
unfolding root root_of to_bits of_bits
root_zero = refl

pub root_infinity : root (inf false) ≡ inf false
unfolding root root_of to_bits of_bits
root_infinity = refl

pub root_nan : root nan ≡ nan
unfolding root root_of to_bits of_bits
root_nan = refl

-- a root's pattern is a number's, or the one NaN
pub root_class : (b : ℕ) → b < 4294967296 → ((root_of b < 4294967296) × (root_of b % 2147483648 ≤ 2139095040)) ⊎ (root_of b ≡ 2143289344)
root_class b h = go (dec_lt (b % 2147483648) 1) (dec_lt b 2139095040) (dec_le b 2139095040) (dec_lt b 2147483648)
  where
    s : Sqrt b (root_of b)
    s = root_of_is b h

    go : Dec (b % 2147483648 < 1) → Dec (b < 2139095040) → Dec (b ≤ 2139095040) → Dec (b < 2147483648)
        → ((root_of b < 4294967296) × (root_of b % 2147483648 ≤ 2139095040)) ⊎ (root_of b ≡ 2143289344)
    go (yes z) _ _ _ = let e : root_of b ≡ b = s.zeros (omega arith) in inl (omega arith, omega arith)
    go (no z) (yes l) _ _ = let e : root_of b < 2139095040 = (s.root (omega arith) l).0 in inl (omega arith, omega arith)
    go (no z) (no l) (yes m) _ = let e : root_of b ≡ b = s.infinity (omega arith) in inl (omega arith, omega arith)
    go (no z) (no l) (no m) (yes n) = inr (s.nans (omega arith) n)
    go (no z) (no l) (no m) (no n) = inr (s.negatives (omega arith))

-- its bits are the root of the bits
pub root_bits : (x : Float) → T (fits binary32 x) → to_bits binary32 (root x) ≡ root_of (to_bits binary32 x)
unfolding root
root_bits x f =
    ⊎_elim
    (λ (c : (root_of (to_bits binary32 x) < 4294967296) × (root_of (to_bits binary32 x) % 2147483648 ≤ 2139095040)).
    to_bits-of_bits binary32 (root_of (to_bits binary32 x)) c.0 (subst (λ (b : Bool). T (not b)) (nan_bits_is binary32 (root_of (to_bits binary32 x))) (reads_number (root_of (to_bits binary32 x)) c.1)))
    (λ (e : root_of (to_bits binary32 x) ≡ 2143289344).
    ap (to_bits binary32) (ap (of_bits binary32) e ∙ reads_nan 2143289344 (omega arith)) ∙ nan_bits_lem ∙ sym e)
    (root_class (to_bits binary32 x) (to_bits-lt binary32 x f))
