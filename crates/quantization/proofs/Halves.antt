-- Laws of bf16: lowering by its cases, that it gives the nearest half, and what comes of widening. Assumes nothing.
use mathlib.Core.Path.{◌≡◌, refl, sym, ap, ◌∙◌, subst}
use mathlib.Core.Logic.{◌≢◌}
use mathlib.Core.Bool.{Bool, true, false, not}
use Prim.Native.Nat.{ℕ, zero, suc, ◌+◌, ◌-◌, ◌*◌, ◌/◌, ◌%◌, ◌^◌, ◌≤◌, ◌<◌, compare, Ordering}
use native.Mathlib.Nat.{le_refl, mul_right_comm, add-mul, add_assoc, pow-suc, mul-le-mul_right, mul-lt-mul_of_pos_right}
use native.Mathlib.Decide.{dec_lt, dec_le}
use native.Mathlib.Omega.{arith}
use lib.Dec.{T, is_le, compare_is_eq, eqb, leb→le, nleb→lt, eqb→eq, eqb_refl}
use lib.Pow.{pow_pos}
use lib.Bits.{bit_or, or_lt}
use lib.Ieee.{binary32, nan_bits, nearest}
use lib.Ieee.Bits.{nan_bits_above}
use lib.Ieee.Nearest.{closest}
use borrow.Author.Tests.{lt-ltb, le-ltb}
use Rattle.paper.specs.Choice.{pick}
use Rattle.sqrt.specs.Root.{sized, mag}
use Rattle.sqrt.proofs.Near.{mag_is, mag_lt}
use Rattle.quantization.specs.Bf16.{lowered, widened, gap, off, Nearest}

-- ---- lib.Ieee's rounding of a fraction, by the order of the two numbers compared

at_lt : (q a b : ℕ) → a < b → nearest q (compare a b) ≡ q
at_lt q a b h = go (compare a b) (eqb→eq a b) (nleb→lt a b)
  where
    go : (o : Ordering) → (T (compare_is_eq o) → a ≡ b) → (T (not (is_le o)) → b < a) → nearest q o ≡ q
    go Ordering.lt e k = refl
    go Ordering.eq e k = let f : a ≡ b = e tt in absurd (omega arith)
    go Ordering.gt e k = let f : b < a = k tt in absurd (omega arith)

at_eq : (q a b : ℕ) → a ≡ b → nearest q (compare a b) ≡ q + q % 2
at_eq q a b h = go (compare a b) (subst (λ (x : ℕ). T (eqb a x)) h (eqb_refl a))
  where
    go : (o : Ordering) → T (compare_is_eq o) → nearest q o ≡ q + q % 2
    go Ordering.lt e = absurd e
    go Ordering.eq e = refl
    go Ordering.gt e = absurd e

at_gt : (q a b : ℕ) → b < a → nearest q (compare a b) ≡ q + 1
at_gt q a b h = go (compare a b) (leb→le a b)
  where
    go : (o : Ordering) → (T (is_le o) → a ≤ b) → nearest q o ≡ q + 1
    go Ordering.lt e = let f : a ≤ b = e tt in absurd (omega arith)
    go Ordering.eq e = let f : a ≤ b = e tt in absurd (omega arith)
    go Ordering.gt e = omega arith

-- ---- lowering, by its cases

is_nan_lem : (b : ℕ) → 2139095040 < b % 2147483648 → nan_bits binary32 b ≡ true
is_nan_lem b h = nan_bits_above binary32 b ∙ lt-ltb 2139095040 (b % 2147483648) h

is_number : (b : ℕ) → b % 2147483648 ≤ 2139095040 → nan_bits binary32 b ≡ false
is_number b h = nan_bits_above binary32 b ∙ le-ltb 2139095040 (b % 2147483648) h

-- what a NaN is lowered to: its upper half and bit 0040
pub lowered_nan : (b : ℕ) → 2139095040 < b % 2147483648 → lowered b ≡ bit_or (b / 65536) 64
unfolding lowered
lowered_nan b h = ap (λ (t : Bool). pick t (bit_or (b / 65536) 64) (closest b 65536)) (is_nan_lem b h)

lowered_number : (b : ℕ) → b % 2147483648 ≤ 2139095040 → lowered b ≡ closest b 65536
unfolding lowered
lowered_number b h = ap (λ (t : Bool). pick t (bit_or (b / 65536) 64) (closest b 65536)) (is_number b h)

-- any other pattern rounds up, to the even one, or down
pub lowered_up : (b : ℕ) → b % 2147483648 ≤ 2139095040 → 32768 < b % 65536 → lowered b ≡ b / 65536 + 1
lowered_up b h k = lowered_number b h ∙ at_gt (b / 65536) (b % 65536 * 2) 65536 (omega arith)

pub lowered_tie : (b : ℕ) → b % 2147483648 ≤ 2139095040 → b % 65536 ≡ 32768 → lowered b ≡ b / 65536 + b / 65536 % 2
lowered_tie b h k = lowered_number b h ∙ at_eq (b / 65536) (b % 65536 * 2) 65536 (omega arith)

pub lowered_down : (b : ℕ) → b % 2147483648 ≤ 2139095040 → b % 65536 < 32768 → lowered b ≡ b / 65536
lowered_down b h k = lowered_number b h ∙ at_lt (b / 65536) (b % 65536 * 2) 65536 (omega arith)

-- all four
pub ruleset lowering = (lowered_nan, lowered_up, lowered_tie, lowered_down)

-- a half is below 65536
pub lowered_lt : (b : ℕ) → b < 4294967296 → lowered b < 65536
lowered_lt b h = go (dec_le (b % 2147483648) 2139095040) (dec_lt (b % 65536) 32768) (dec_lt 32768 (b % 65536))
  where
    go : Dec (b % 2147483648 ≤ 2139095040) → Dec (b % 65536 < 32768) → Dec (32768 < b % 65536) → lowered b < 65536
    go (no n) _ _ = rw (lowered_nan b (omega arith)) (or_lt 16 (b / 65536) 64 (omega arith) (omega arith))
    go (yes n) (yes l) _ = omega (arith, lowered_down b n l)
    go (yes n) (no l) (yes m) = omega (arith, lowered_up b n m)
    go (yes n) (no l) (no m) = omega (arith, lowered_tie b n (omega arith))

-- ---- widening and lowering again: a half comes back, a NaN's with bit 0040 set (which a quiet NaN has anyway)

pub lowered_widened : (h : ℕ) → lowered (widened h) ≡ pick (nan_bits binary32 (widened h)) (bit_or h 64) h
unfolding widened
lowered_widened h = go (dec_le (h * 65536 % 2147483648) 2139095040)
  where
    go : Dec (h * 65536 % 2147483648 ≤ 2139095040) → lowered (h * 65536) ≡ pick (nan_bits binary32 (h * 65536)) (bit_or h 64) h
    go (yes n) =
        let e : h * 65536 / 65536 ≡ h = omega arith in
        lowered_down (h * 65536) n (omega arith) ∙ e ∙ ap (λ (t : Bool). pick t (bit_or h 64) h) (sym (is_number (h * 65536) n))
    go (no n) =
        let e : h * 65536 / 65536 ≡ h = omega arith in
        let l : 2139095040 < h * 65536 % 2147483648 = omega arith in
        lowered_nan (h * 65536) l ∙ ap (λ (x : ℕ). bit_or x 64) e ∙ ap (λ (t : Bool). pick t (bit_or h 64) h) (sym (is_nan_lem (h * 65536) l))

-- so any half but a NaN's is given back
pub half_back : (h : ℕ) → h % 32768 ≤ 32640 → lowered (widened h) ≡ h
unfolding widened
half_back h l = let e : h * 65536 / 65536 ≡ h = omega arith in lowered_down (h * 65536) (omega arith) (omega arith) ∙ e

-- ---- between two neighbours of bf16 binary32 goes in equal steps

sized_add : (x t d : ℕ) → sized x (t + d) ≡ sized x t + d * 2 ^ (x - 1)
unfolding sized
sized_add zero t d = omega arith
sized_add (suc x) t d =
    let e : suc x - 1 ≡ x = omega arith in
    let p : (8388608 + t + d) * 2 ^ x ≡ (8388608 + t) * 2 ^ x + d * 2 ^ x = add-mul (8388608 + t) d (2 ^ x) in
    rw (e, ← add_assoc) p

sized_next : (x : ℕ) → sized (suc x) 0 ≡ sized x 8388608
unfolding sized
sized_next zero = refl
sized_next (suc x) = omega (arith, pow-suc 2 x)

-- the size of a pattern, by the half p below it and what is left
affine : (p d : ℕ) → d ≤ 65536 → mag (p * 65536 + d) ≡ mag (p * 65536) + d * 2 ^ (p / 128 - 1)
affine p d h = go (dec_lt (p * 65536 % 8388608 + d) 8388608)
  where
    here : mag (p * 65536) ≡ sized (p / 128) (p * 65536 % 8388608)
    here = mag_is (p * 65536) (p / 128) (p * 65536 % 8388608) (omega arith) refl

    go : Dec (p * 65536 % 8388608 + d < 8388608) → mag (p * 65536 + d) ≡ mag (p * 65536) + d * 2 ^ (p / 128 - 1)
    go (yes l) =
        mag_is (p * 65536 + d) (p / 128) (p * 65536 % 8388608 + d) (omega arith) (omega arith)
        ∙ sized_add (p / 128) (p * 65536 % 8388608) d
        ∙ ap (λ (n : ℕ). n + d * 2 ^ (p / 128 - 1)) (sym here)
    go (no l) =
        let e : p * 65536 % 8388608 + d ≡ 8388608 = omega arith in
        mag_is (p * 65536 + d) (suc (p / 128)) 0 (omega arith) (omega arith)
        ∙ sized_next (p / 128)
        ∙ ap (sized (p / 128)) (sym e)
        ∙ sized_add (p / 128) (p * 65536 % 8388608) d
        ∙ ap (λ (n : ℕ). n + d * 2 ^ (p / 128 - 1)) (sym here)

-- ---- the nearest mark on a scale

-- Where the mark k is seen from a point between the marks q and q + 1, x above the one and y below the other: how far away it is, `a`.
data Side (q x y k a : ℕ) : Type 0 where
  before : k < q → x < a → Side q x y k a
  lower : k ≡ q → a ≡ x → Side q x y k a
  upper : k ≡ q + 1 → a ≡ y → Side q x y k a
  after : q + 1 < k → y < a → Side q x y k a

-- what a mark h that no other is nearer than, and that is even where another is as near, looks like
record Best (away : ℕ → ℕ) (h : ℕ) : Type 0 where
  near : (k : ℕ) → away h ≤ away k
  even : (k : ℕ) → k ≢ h → away h ≡ away k → h % 2 ≡ 0

-- d of 65536 says which of the two is nearer, and l is the nearer, or the even one
module _ (q d x y l : ℕ) (away : ℕ → ℕ) (side : (k : ℕ) → Side q x y k (away k))
    (less : d < 32768 → x < y) (more : 32768 < d → y < x) (same : d ≡ 32768 → x ≡ y)
    (down : d < 32768 → l ≡ q) (up : 32768 < d → l ≡ q + 1) (tie : d ≡ 32768 → l ≡ q + q % 2) where
  chosen : (away l ≤ x) × (away l ≤ y)
  chosen = go (dec_lt d 32768) (dec_lt 32768 d) (side l)
    where
      go : Dec (d < 32768) → Dec (32768 < d) → Side q x y l (away l) → (away l ≤ x) × (away l ≤ y)
      go (yes h) _ (before a b) = let e = down h in let f = less h in (omega arith, omega arith)
      go (yes h) _ (lower a b) = let e = down h in let f = less h in (omega arith, omega arith)
      go (yes h) _ (upper a b) = let e = down h in let f = less h in (omega arith, omega arith)
      go (yes h) _ (after a b) = let e = down h in let f = less h in (omega arith, omega arith)
      go (no h) (yes g) (before a b) = let e = up g in let f = more g in (omega arith, omega arith)
      go (no h) (yes g) (lower a b) = let e = up g in let f = more g in (omega arith, omega arith)
      go (no h) (yes g) (upper a b) = let e = up g in let f = more g in (omega arith, omega arith)
      go (no h) (yes g) (after a b) = let e = up g in let f = more g in (omega arith, omega arith)
      go (no h) (no g) (before a b) = let e = tie (omega arith) in let f = same (omega arith) in (omega arith, omega arith)
      go (no h) (no g) (lower a b) = let e = tie (omega arith) in let f = same (omega arith) in (omega arith, omega arith)
      go (no h) (no g) (upper a b) = let e = tie (omega arith) in let f = same (omega arith) in (omega arith, omega arith)
      go (no h) (no g) (after a b) = let e = tie (omega arith) in let f = same (omega arith) in (omega arith, omega arith)

  chosen_near : (k : ℕ) → away l ≤ away k
  chosen_near k = go (side k)
    where
      go : Side q x y k (away k) → away l ≤ away k
      go (before a b) = omega (arith, chosen)
      go (lower a b) = omega (arith, chosen)
      go (upper a b) = omega (arith, chosen)
      go (after a b) = omega (arith, chosen)

  chosen_even : (k : ℕ) → k ≢ l → away l ≡ away k → l % 2 ≡ 0
  chosen_even k n e = go (dec_lt d 32768) (dec_lt 32768 d) (side k)
    where
      go : Dec (d < 32768) → Dec (32768 < d) → Side q x y k (away k) → l % 2 ≡ 0
      go (yes h) _ (before a b) = absurd (omega (arith, chosen, less h))
      go (yes h) _ (lower a b) = absurd (n (omega (arith, down h)))
      go (yes h) _ (upper a b) = absurd (omega (arith, chosen, less h))
      go (yes h) _ (after a b) = absurd (omega (arith, chosen, less h))
      go (no h) (yes g) (before a b) = absurd (omega (arith, chosen, more g))
      go (no h) (yes g) (lower a b) = absurd (omega (arith, chosen, more g))
      go (no h) (yes g) (upper a b) = absurd (n (omega (arith, up g)))
      go (no h) (yes g) (after a b) = absurd (omega (arith, chosen, more g))
      go (no h) (no g) s = omega (arith, tie (omega arith))

  -- l is one of the two marks around the point, and so is any mark that is as near
  beside : (k : ℕ) → away k ≤ away l → (q ≤ k) × (k ≤ q + 1)
  beside k h = go (side k)
    where
      go : Side q x y k (away k) → (q ≤ k) × (k ≤ q + 1)
      go (before a b) = absurd (omega (arith, chosen))
      go (lower a b) = (omega arith, omega arith)
      go (upper a b) = (omega arith, omega arith)
      go (after a b) = absurd (omega (arith, chosen))

  only : (h : ℕ) → Best away h → h ≡ l
  only h best = go (dec_lt h l) (dec_lt l h)
    where
      differ : (h ≡ l → ⊥) → ⊥
      differ n =
          let a : away h ≤ away l = best.near l in
          let b : away l ≤ away h = chosen_near h in
          let e : h % 2 ≡ 0 = best.even l (λ i. n (sym i)) (omega arith) in
          let f : l % 2 ≡ 0 = chosen_even h n (omega arith) in
          let s = beside h a in
          let t = beside l (le_refl (away l)) in
          n (omega arith)

      go : Dec (h < l) → Dec (l < h) → h ≡ l
      go (yes a) _ = absurd (differ (λ e. omega arith))
      go (no a) (yes b) = absurd (differ (λ e. omega arith))
      go (no a) (no b) = omega arith

-- ---- the scale of halves, seen from the pattern q * 65536 + d

module _ (q d : ℕ) (h : d < 65536) where
  here : mag (q * 65536 + d) ≡ mag (q * 65536) + d * 2 ^ (q / 128 - 1)
  here = affine q d (omega arith)

  next : mag ((q + 1) * 65536) ≡ mag (q * 65536) + 65536 * 2 ^ (q / 128 - 1)
  next = ap mag (add-mul q 1 65536) ∙ affine q 65536 (le_refl 65536)

  part : d * 2 ^ (q / 128 - 1) ≤ 65536 * 2 ^ (q / 128 - 1)
  part = mul-le-mul_right (2 ^ (q / 128 - 1)) (omega arith)

  seen : (k : ℕ) → Side q (d * 2 ^ (q / 128 - 1)) (65536 * 2 ^ (q / 128 - 1) - d * 2 ^ (q / 128 - 1)) k (gap (mag (k * 65536)) (mag (q * 65536 + d)))
  seen k = go (dec_lt k q) (dec_lt q k) (dec_lt (q + 1) k)
    where
      go : Dec (k < q) → Dec (q < k) → Dec (q + 1 < k)
          → Side q (d * 2 ^ (q / 128 - 1)) (65536 * 2 ^ (q / 128 - 1) - d * 2 ^ (q / 128 - 1)) k (gap (mag (k * 65536)) (mag (q * 65536 + d)))
      go (yes l) _ _ = before l (omega (arith, here, mag_lt (k * 65536) (q * 65536) (omega arith)))
      go (no l) (no m) _ =
          let e : k ≡ q = omega arith in
          lower e (rw e (omega (arith, here)))
      go (no l) (yes m) (no n) =
          let e : k ≡ q + 1 = omega arith in
          upper e (rw e (omega (arith, here, next, part)))
      go (no l) (yes m) (yes n) = after n (omega (arith, here, next, part, mag_lt ((q + 1) * 65536) (k * 65536) (omega arith)))

  less : d < 32768 → d * 2 ^ (q / 128 - 1) < 65536 * 2 ^ (q / 128 - 1) - d * 2 ^ (q / 128 - 1)
  less l =
      let e : d * 2 * 2 ^ (q / 128 - 1) < 65536 * 2 ^ (q / 128 - 1) = mul-lt-mul_of_pos_right (omega arith) (pow_pos (q / 128 - 1)) in
      omega (arith, mul_right_comm d 2 (2 ^ (q / 128 - 1)))

  more : 32768 < d → 65536 * 2 ^ (q / 128 - 1) - d * 2 ^ (q / 128 - 1) < d * 2 ^ (q / 128 - 1)
  more l =
      let e : 65536 * 2 ^ (q / 128 - 1) < d * 2 * 2 ^ (q / 128 - 1) = mul-lt-mul_of_pos_right (omega arith) (pow_pos (q / 128 - 1)) in
      omega (arith, part, mul_right_comm d 2 (2 ^ (q / 128 - 1)))

  same : d ≡ 32768 → d * 2 ^ (q / 128 - 1) ≡ 65536 * 2 ^ (q / 128 - 1) - d * 2 ^ (q / 128 - 1)
  same e =
      let f : d * 2 ^ (q / 128 - 1) ≡ 32768 * 2 ^ (q / 128 - 1) = ap (λ (z : ℕ). z * 2 ^ (q / 128 - 1)) e in
      omega arith

-- ---- lowering gives the nearest half, for both signs, and it alone is the nearest

-- no carry reaches the sign
wrap : (p q r l : ℕ) → p % 32768 ≡ q → q < 32640 → r < 2 → l ≡ p + r → l % 32768 ≡ q + r
wrap p q r l e g h f = omega arith

module _ (b : ℕ) (fits : b < 4294967296) (number : b % 2147483648 ≤ 2139095040) where
  -- the half below b's size, and what is left
  size_of : mag (b % 2147483648) ≡ mag (b % 2147483648 / 65536 * 65536 + b % 65536)
  size_of = ap mag (split (omega arith))
    where
      split : b % 2147483648 ≡ b % 2147483648 / 65536 * 65536 + b % 65536 → b % 2147483648 ≡ b % 2147483648 / 65536 * 65536 + b % 65536
      split e = e

  side : (k : ℕ)
      → Side (b % 2147483648 / 65536) (b % 65536 * 2 ^ (b % 2147483648 / 65536 / 128 - 1)) (65536 * 2 ^ (b % 2147483648 / 65536 / 128 - 1) - b % 65536 * 2 ^ (b % 2147483648 / 65536 / 128 - 1)) k (off b k)
  side k = rw size_of (seen (b % 2147483648 / 65536) (b % 65536) (omega arith) k)

  -- what `lowered` gives, the sign taken off
  low : b % 65536 < 32768 → lowered b % 32768 ≡ b % 2147483648 / 65536
  low h = omega (arith, lowered_down b number h)

  high : 32768 < b % 65536 → lowered b % 32768 ≡ b % 2147483648 / 65536 + 1
  high h = omega (arith, lowered_up b number h)

  middle : b % 65536 ≡ 32768 → lowered b % 32768 ≡ b % 2147483648 / 65536 + b % 2147483648 / 65536 % 2
  middle h =
      let t : lowered b ≡ b / 65536 + b / 65536 % 2 = lowered_tie b number h in
      let e : b / 65536 % 32768 ≡ b % 2147483648 / 65536 = omega arith in
      let f : b / 65536 % 2 ≡ b % 2147483648 / 65536 % 2 = omega arith in
      let g : b % 2147483648 / 65536 < 32640 = omega arith in
      wrap (b / 65536) (b % 2147483648 / 65536) (b % 2147483648 / 65536 % 2) (lowered b) e g (omega arith) (omega arith)

  signed : lowered b / 32768 ≡ b / 2147483648
  signed = go (dec_lt (b % 65536) 32768) (dec_lt 32768 (b % 65536))
    where
      go : Dec (b % 65536 < 32768) → Dec (32768 < b % 65536) → lowered b / 32768 ≡ b / 2147483648
      go (yes h) _ = omega (arith, lowered_down b number h)
      go (no h) (yes g) = omega (arith, lowered_up b number g)
      go (no h) (no g) = omega (arith, lowered_tie b number (omega arith))

  pub lowered_nearest : Nearest b (lowered b)
  lowered_nearest = record {
    sign = signed;
    near =
        chosen_near (b % 2147483648 / 65536) (b % 65536) _ _ (lowered b % 32768) (off b) side
        (less (b % 2147483648 / 65536) (b % 65536) (omega arith)) (more (b % 2147483648 / 65536) (b % 65536) (omega arith)) (same (b % 2147483648 / 65536) (b % 65536) (omega arith))
        low high middle;
    even = λ k n e.
        let f : lowered b % 32768 % 2 ≡ 0 =
        chosen_even (b % 2147483648 / 65536) (b % 65536) _ _ (lowered b % 32768) (off b) side
        (less (b % 2147483648 / 65536) (b % 65536) (omega arith)) (more (b % 2147483648 / 65536) (b % 65536) (omega arith)) (same (b % 2147483648 / 65536) (b % 65536) (omega arith))
        low high middle k n e in
        omega arith;
  }

  pub nearest_only : (h : ℕ) → Nearest b h → h ≡ lowered b
  nearest_only h n =
      let e : h % 32768 ≡ lowered b % 32768 =
      only (b % 2147483648 / 65536) (b % 65536) _ _ (lowered b % 32768) (off b) side
      (less (b % 2147483648 / 65536) (b % 65536) (omega arith)) (more (b % 2147483648 / 65536) (b % 65536) (omega arith)) (same (b % 2147483648 / 65536) (b % 65536) (omega arith))
      low high middle (h % 32768) (record { near = n.near; even = λ k m f. let g : h % 2 ≡ 0 = n.even k m f in omega arith }) in
      omega (arith, n.sign, signed)
