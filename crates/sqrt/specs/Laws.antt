-- The laws of this crate, which `laws` claims: what documents and the definitions of other crates lean on.
use Rattle.std.specs.Prelude.{◌≡◌, Bool, true, false, ℕ, ◌+◌, ◌*◌, ◌%◌, ◌^◌, ◌≤◌, ◌<◌, T, ℤ, Float}
use Rattle.std.specs.Float.{fin, binary32}
use Rattle.std.specs.Float.Ieee.{fits, neg, lt, of_bits, to_bits}
use Rattle.std.specs.Float.Ieee.Exact.{HasValue}
use Rattle.sqrt.specs.Root.{mag, Near, Sqrt}
use Rattle.sqrt.specs.RootOf.{root_of, root}
use Rattle.sqrt.specs.FloatRoot.{Sized, IsRoot}

pub record Laws : Type 0 where
  -- a pattern has one root: two answers that `Sqrt` allows are equal
  pub sqrt_unique : (b p q : ℕ) → b < 0x1_0000_0000 → Sqrt b p → Sqrt b q → p ≡ q
  -- the function `root_of`, which other definitions cite, gives a root, and whatever is a root is what it gives
  pub root_of_is : (b : ℕ) → b < 0x1_0000_0000 → Sqrt b (root_of b)
  pub sqrt_is : (b q : ℕ) → b < 0x1_0000_0000 → Sqrt b q → q ≡ root_of b
  -- sizes are IEEE 754's values: a finite pattern b, sign clear, reads as mag b / 2^149
  pub value : (b : ℕ) → b < 0x7f80_0000 → HasValue (of_bits binary32 b) false (mag b) (2 ^ 149)
  -- a set sign bit negates: b with the sign set reads as the negative of what b reads as, a zero, an infinity and a NaN too
  pub sign_negates : (b : ℕ) → b < 0x8000_0000 → of_bits binary32 (b + 0x8000_0000) ≡ neg (of_bits binary32 b)
  -- `Near` says the nearest: √n lies strictly on q's side of the midpoint of q and every other pattern p, a smaller and a larger one
  pub nearer_above : (n q p : ℕ) → Near n q → p < q → (mag p + mag q) * (mag p + mag q) < 4 * n
  pub nearer_below : (n q p : ℕ) → Near n q → q < p → 4 * n < (mag q + mag p) * (mag q + mag p)
  -- a positive finite pattern has a finite root
  pub root_finite : (b : ℕ) → 0 < b → b < 0x7f80_0000 → root_of b < 0x7f80_0000
  -- a smaller number has no larger root
  pub root_mono : (b c : ℕ) → b ≤ c → c ≤ 0x7f80_0000 → root_of b ≤ root_of c
  -- a float above the root of b is above the root of every pattern below b, b's sign aside
  pub below_root : (b : ℕ) (z : Float) → b < 0x1_0000_0000 → lt (of_bits binary32 (root_of b)) z ≡ true
      → (p : ℕ) → p < b % 0x8000_0000 → lt (of_bits binary32 (root_of p)) z ≡ true
  -- `root x` is the square root of the float x, for every float of binary32: the nearest one, where x is above zero
  pub root_nearest : (x : Float) → T (fits binary32 x) → IsRoot x (root x)
  -- and each finite float has a size, so that `root_nearest` speaks of it: that of its pattern, the sign aside
  pub float_sized : (s : Bool) (m : ℕ) (e : ℤ) → T (fits binary32 (fin s m e)) → Sized (fin s m e) s (mag (to_bits binary32 (fin s m e) % 0x8000_0000))
