-- `root_of` is the root that `Sqrt` says. Assumes nothing.
use mathlib.Core.Path.{◌≡◌, refl, sym, ap, ◌∙◌}
use mathlib.Core.Logic.{inl, inr}
use mathlib.Core.Bool.{Bool, cond}
use Prim.Native.Nat.{ℕ, zero, suc, ◌+◌, ◌-◌, ◌*◌, ◌/◌, ◌%◌, ◌^◌, ◌≤◌, ◌<◌}
use native.Mathlib.Nat.{pow-suc, mul-mul-mul_comm, div-lt_iff_lt-mul, zero-lt-suc}
use native.Mathlib.Decide.{dec_le, dec_lt}
use native.Mathlib.Omega.{arith}
use lib.Dec.{leb, eqb}
use lib.Count.{count_leading_zeros}
use borrow.Author.Tests.{le-leb, lt-leb, lt-ltb, le-ltb, eq-eqb, ne_eqb}
use Rattle.sqrt.specs.Root.{mag, Near, Sqrt}
use Rattle.sqrt.specs.RootOf.{whole_root, root_scaled, root_fields, root_of}
use Rattle.sqrt.proofs.Near.{nearer_above, nearer_below, Scaling, scaling_bounds, rounded_near, is_zero, is_infinity, is_invalid, is_root, sqrt_unique, normal, subnormal, shift_up}

-- ---- the whole root

module _ (n q : ℕ) (lo : q * q ≤ n / 4) (hi : n / 4 < (q + 1) * (q + 1)) where
  low : q * 2 * (q * 2) ≤ n
  low = let e : q * 2 * (q * 2) ≡ q * q * 4 = mul-mul-mul_comm q 2 q 2 in omega arith

  high : n < (q * 2 + 1 + 1) * (q * 2 + 1 + 1)
  high =
      let e : (q + 1) * 2 * ((q + 1) * 2) ≡ (q + 1) * (q + 1) * 4 = mul-mul-mul_comm (q + 1) 2 (q + 1) 2 in
      let f : (q + 1) * 2 ≡ q * 2 + 1 + 1 = omega arith in
      let g : n < (q + 1) * 2 * ((q + 1) * 2) = omega arith in
      rw f at g

  one_digit : (r : ℕ) → r ≡ cond (leb ((q * 2 + 1) * (q * 2 + 1)) n) (q * 2 + 1) (q * 2) → (r * r ≤ n) × (n < (r + 1) * (r + 1))
  one_digit r e = go (dec_le ((q * 2 + 1) * (q * 2 + 1)) n)
    where
      go : Dec ((q * 2 + 1) * (q * 2 + 1) ≤ n) → (r * r ≤ n) × (n < (r + 1) * (r + 1))
      go (yes h) =
          let f : r ≡ q * 2 + 1 = e ∙ ap (λ (b : Bool). cond b (q * 2 + 1) (q * 2)) (le-leb ((q * 2 + 1) * (q * 2 + 1)) n h) in
          rw f (h, high)
      go (no h) =
          let f : r ≡ q * 2 = e ∙ ap (λ (b : Bool). cond b (q * 2 + 1) (q * 2)) (lt-leb ((q * 2 + 1) * (q * 2 + 1)) n (omega arith)) in
          let g : n < (q * 2 + 1) * (q * 2 + 1) = omega arith in
          rw f (low, g)

pub whole : (k n : ℕ) → n < 4 ^ k → (whole_root k n * whole_root k n ≤ n) × (n < (whole_root k n + 1) * (whole_root k n + 1))
unfolding whole_root
whole zero n h = (omega arith, omega arith)
whole (suc k) n h =
    let i = whole k (n / 4) ((div-lt_iff_lt-mul (zero-lt-suc 3)).1 (rw pow-suc at h)) in
    one_digit n (whole_root k (n / 4)) i.0 i.1 (whole_root (suc k) n) refl

-- ---- a significand of 24 digits

scaling : (m h : ℕ) → Scaling m h (m * cond (eqb (h % 2) 0) 67108864 33554432)
scaling m h = go (dec_lt (h % 2) 1)
  where
    go : Dec (h % 2 < 1) → Scaling m h (m * cond (eqb (h % 2) 0) 67108864 33554432)
    go (yes l) = let e : h % 2 ≡ 0 = omega arith in inl (e, ap (λ (b : Bool). m * cond b 67108864 33554432) (eq-eqb (h % 2) 0 e))
    go (no l) = inr ((λ e. omega arith), ap (λ (b : Bool). m * cond b 67108864 33554432) (ne_eqb (h % 2) 0 (λ e. omega arith)))

-- with the whole root as a variable, so that nothing computes it
finite : (h r : ℕ) → h ≤ 378 → r + 1 < 33554432 → (h + 1) / 2 * 8388608 + (r + 1) / 2 < 2139095040
finite h r l k = omega arith

near_at : (m h a r : ℕ) → 8388608 ≤ m → m < 16777216 → h ≤ 378 → Scaling m h a → r * r ≤ a → a < (r + 1) * (r + 1)
    → ((h + 1) / 2 * 8388608 + (r + 1) / 2 < 2139095040) × Near (m * 2 ^ (h + 24)) ((h + 1) / 2 * 8388608 + (r + 1) / 2)
near_at m h a r lo hi top s le lt = let n = rounded_near m h a lo hi s r le lt in (finite h r top n.1, n.2)

small : (m h a : ℕ) → 8388608 ≤ m → m < 16777216 → Scaling m h a → a < 4 ^ 25
small m h a lo hi s = omega (arith, scaling_bounds m h a lo hi s)

scaled_near : (m h : ℕ) → 8388608 ≤ m → m < 16777216 → h ≤ 378 → (root_scaled m h < 2139095040) × Near (m * 2 ^ (h + 24)) (root_scaled m h)
unfolding root_scaled
scaled_near m h lo hi top =
    let a = m * cond (eqb (h % 2) 0) 67108864 33554432 in
    let w = whole 25 a (small m h a lo hi (scaling m h)) in
    near_at m h a (whole_root 25 a) lo hi top (scaling m h) w.0 w.1

-- ---- every pattern

fields_root : (b x t : ℕ) → b / 8388608 ≡ x → b % 8388608 ≡ t → 0 < b → b < 2139095040 → Sqrt b (root_fields x t)
unfolding root_fields
fields_root b zero t e f p l =
    let s = shift_up t (omega arith) (omega arith) in
    let z = count_leading_zeros 32 t in
    let r = scaled_near (t * 2 ^ (z - 8)) (125 - (z - 8)) s.large s.small (omega arith) in
    is_root b (t * 2 ^ (z - 8) * 2 ^ (125 - (z - 8) + 24)) (root_scaled (t * 2 ^ (z - 8)) (125 - (z - 8))) p l (ap (λ (y : ℕ). y * 2 ^ 149) (subnormal b t e f) ∙ sym s.same) r.0 r.1
fields_root b (suc x) t e f p l =
    let r = scaled_near (t + 8388608) (suc x + 124) (omega arith) (omega arith) (omega arith) in
    is_root b ((t + 8388608) * 2 ^ (suc x + 124 + 24)) (root_scaled (t + 8388608) (suc x + 124)) p l (normal b (suc x) t e f (omega arith)) r.0 r.1

pub root_of_is : (b : ℕ) → b < 4294967296 → Sqrt b (root_of b)
unfolding root_of
root_of_is b h = go (dec_lt (b % 2147483648) 1) (dec_le b 2139095040) (dec_lt b 2139095040)
  where
    F : ℕ
    F = root_fields (b / 8388608) (b % 8388608)

    go : Dec (b % 2147483648 < 1) → Dec (b ≤ 2139095040) → Dec (b < 2139095040) → Sqrt b (root_of b)
    go (yes z) _ _ = rw (eq-eqb (b % 2147483648) 0 (omega arith)) (is_zero b h (omega arith))
    go (no z) (yes l) (yes m) =
        rw (ne_eqb (b % 2147483648) 0 (λ e. omega arith), ne_eqb b 2139095040 (λ e. omega arith), lt-ltb b 2139095040 m) (fields_root b (b / 8388608) (b % 8388608) refl refl (omega arith) m)
    go (no z) (yes l) (no m) = rw (ne_eqb (b % 2147483648) 0 (λ e. omega arith), eq-eqb b 2139095040 (omega arith)) (is_infinity b (omega arith))
    go (no z) (no l) _ =
        rw (ne_eqb (b % 2147483648) 0 (λ e. omega arith), ne_eqb b 2139095040 (λ e. omega arith), le-ltb b 2139095040 (omega arith)) (is_invalid b (omega arith) (λ e. omega arith) h)

-- so what `Sqrt` says is `root_of`
pub sqrt_is : (b q : ℕ) → b < 4294967296 → Sqrt b q → q ≡ root_of b
sqrt_is b q h s = sqrt_unique b q (root_of b) h s (root_of_is b h)

-- ---- what a reader wants of it: a positive finite pattern has a finite root, and no other finite pattern is nearer

pub root_finite : (b : ℕ) → 0 < b → b < 2139095040 → root_of b < 2139095040
root_finite b p h = ((root_of_is b (omega arith)).root p h).0

-- a pattern p below the root: √(mag b * 2 ^ 149) is on the root's side of the midpoint
pub root_above : (b p : ℕ) → 0 < b → b < 2139095040 → p < root_of b → (mag p + mag (root_of b)) * (mag p + mag (root_of b)) < 4 * (mag b * 2 ^ 149)
root_above b p h k l = nearer_above (mag b * 2 ^ 149) (root_of b) p ((root_of_is b (omega arith)).root h k).1 l

-- and one above it
pub root_below : (b p : ℕ) → 0 < b → b < 2139095040 → root_of b < p → 4 * (mag b * 2 ^ 149) < (mag (root_of b) + mag p) * (mag (root_of b) + mag p)
root_below b p h k l = nearer_below (mag b * 2 ^ 149) (root_of b) p ((root_of_is b (omega arith)).root h k).1 l
