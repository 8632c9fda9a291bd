-- The root of a float is the float nearest to its root, and a set sign bit negates. Assumes nothing.
use mathlib.Core.Path.{◌≡◌, refl, sym, ap, ◌∙◌, subst}
use mathlib.Core.Bool.{Bool, true, false, not, cond}
use Prim.Native.Nat.{ℕ, zero, suc, ◌+◌, ◌*◌, ◌/◌, ◌%◌, ◌^◌, ◌<◌}
use native.Mathlib.Nat.{eq_of_mul-eq-mul_right}
use native.Mathlib.Decide.{dec_lt}
use native.Mathlib.Omega.{arith}
use lib.Dec.{T, eqb}
use lib.IntN.{ℤ, pos}
use lib.Ieee.{Float, nan, inf, fin, binary32, down, odd, neg, fits, of_fields, of_bits, to_bits}
use lib.Ieee.Fits.{down_pos}
use lib.Ieee.Bits.{of_bits-to_bits, to_bits-lt}
use borrow.Author.Tests.{le-leb, lt-leb}
use Rattle.sqrt.specs.Root.{sized, mag, Near}
use Rattle.sqrt.specs.RootOf.{root_of, root}
use Rattle.sqrt.specs.FloatRoot.{Sized, NearestRoot, IsRoot}
use Rattle.sqrt.proofs.Near.{mag_mono, nearer_above, nearer_below}
use Rattle.sqrt.proofs.Function.{root_of_is, root_finite}
use Rattle.sqrt.proofs.Values.{value}
use Rattle.sqrt.proofs.Bits.{reads_nan}
use Rattle.sqrt.proofs.Floats.{root_fits, root_infinity, root_nan}

-- ---- the sign bit

neg_odd : (d q k l : ℕ) → odd d true q k l ≡ neg (odd d false q k l)
unfolding odd neg
neg_odd d zero k l = refl
neg_odd d (suc q) k l = refl

neg_fields : (x t : ℕ) → of_fields binary32 true x t ≡ neg (of_fields binary32 false x t)
unfolding of_fields neg
neg_fields zero t = neg_odd 24 t 0 149
neg_fields (suc x) t = go (eqb (suc x) 255) (eqb t 0)
  where
    go : (a b : Bool) → cond a (cond b (inf true) nan) (odd 24 true (8388608 + t) x 149) ≡ neg (cond a (cond b (inf false) nan) (odd 24 false (8388608 + t) x 149))
    go true true = refl
    go true false = refl
    go false b = neg_odd 24 (8388608 + t) x 149

pub sign_negates : (b : ℕ) → b < 2147483648 → of_bits binary32 (b + 2147483648) ≡ neg (of_bits binary32 b)
unfolding of_bits
sign_negates b h =
    let x : (b + 2147483648) % 2147483648 / 8388608 ≡ b % 2147483648 / 8388608 = omega arith in
    let t : (b + 2147483648) % 8388608 ≡ b % 8388608 = omega arith in
    rw (le-leb 2147483648 (b + 2147483648) (omega arith), lt-leb 2147483648 b h, x, t) (neg_fields (b % 2147483648 / 8388608) (b % 8388608))

-- ---- sizes of floats

neg_sized : (x : Float) (s : Bool) (n : ℕ) → Sized x s n → Sized (neg x) (not s) n
unfolding neg
neg_sized nan s n v = v
neg_sized (inf t) s n v = v
neg_sized (fin t m e) s n v = (ap not v.0, v.1)

minus_value : (p : ℕ) → p < 2139095040 → Sized (of_bits binary32 (p + 2147483648)) true (mag p)
minus_value p l =
    subst (λ (y : Float). Sized y true (mag p)) (sym (sign_negates p (omega arith))) (neg_sized (of_bits binary32 p) false (mag p) (value p l))

-- a float has one sign and one size
one_sign : (x : Float) (s t : Bool) (a b : ℕ) → Sized x s a → Sized x t b → s ≡ t
one_sign nan s t a b v w = absurd v
one_sign (inf u) s t a b v w = absurd v
one_sign (fin u m e) s t a b v w = sym v.0 ∙ w.0

one_size : (x : Float) (s t : Bool) (a b : ℕ) → Sized x s a → Sized x t b → a ≡ b
one_size nan s t a b v w = absurd v
one_size (inf u) s t a b v w = absurd v
one_size (fin u m e) s t a b v w = eq_of_mul-eq-mul_right (down e) (down_pos e) a b (sym v.1 ∙ w.1)

no_infinity : (s : Bool) (n : ℕ) → Sized (of_bits binary32 2139095040) s n → ⊥
unfolding of_bits
no_infinity s n v = v

no_minus_infinity : (s : Bool) (n : ℕ) → Sized (of_bits binary32 4286578688) s n → ⊥
unfolding of_bits
no_minus_infinity s n v = v

no_size : (s : Bool) (n b : ℕ) → 2139095040 < b % 2147483648 → Sized (of_bits binary32 b) s n → ⊥
no_size s n b h v = subst (λ (y : Float). Sized y s n) (reads_nan b h) v

differ : false ≡ true → ⊥
differ h = let z : ◌≡◌ {A = ℕ} 0 1 = cc in absurd (omega arith)

size_zero : mag 0 ≡ 0
unfolding mag sized
size_zero = refl

above_zero : (p n : ℕ) → mag p ≡ n → 0 < n → 0 < p
above_zero zero n e h = absurd (omega (arith, size_zero))
above_zero (suc p) n e h = omega arith

-- ---- the classes of patterns, by what they read as

data Class (b : ℕ) : Type 0 where
  plus : b < 2139095040 → Class b
  minus : (p : ℕ) → p < 2139095040 → b ≡ p + 2147483648 → Class b
  top : b ≡ 2139095040 → Class b
  bottom : b ≡ 4286578688 → Class b
  none : 2139095040 < b % 2147483648 → Class b

class : (b : ℕ) → b < 4294967296 → Class b
class b h = go (dec_lt b 2139095040) (dec_lt 2139095040 (b % 2147483648)) (dec_lt b 2147483648) (dec_lt (b % 2147483648) 2139095040)
  where
    go : Dec (b < 2139095040) → Dec (2139095040 < b % 2147483648) → Dec (b < 2147483648) → Dec (b % 2147483648 < 2139095040) → Class b
    go (yes l) _ _ _ = plus l
    go (no l) (yes m) _ _ = none m
    go (no l) (no m) (yes n) _ = top (omega arith)
    go (no l) (no m) (no n) (yes o) = minus (b % 2147483648) o (omega arith)
    go (no l) (no m) (no n) (no o) = bottom (omega arith)

module _ (x : Float) (f : T (fits binary32 x)) where
  back : of_bits binary32 (to_bits binary32 x) ≡ x
  back = of_bits-to_bits binary32 x f

  -- the pattern of a float that is not negative
  plus_bits : (n : ℕ) → Sized x false n → (to_bits binary32 x < 2139095040) × (mag (to_bits binary32 x) ≡ n)
  plus_bits n v = go (class (to_bits binary32 x) (to_bits-lt binary32 x f))
    where
      at : Sized (of_bits binary32 (to_bits binary32 x)) false n
      at = subst (λ (y : Float). Sized y false n) (sym back) v

      go : Class (to_bits binary32 x) → (to_bits binary32 x < 2139095040) × (mag (to_bits binary32 x) ≡ n)
      go (plus l) = (l, one_size (of_bits binary32 (to_bits binary32 x)) false false (mag (to_bits binary32 x)) n (value (to_bits binary32 x) l) at)
      go (minus p l e) = absurd (differ (one_sign (of_bits binary32 (p + 2147483648)) false true n (mag p) (subst (λ (b : ℕ). Sized (of_bits binary32 b) false n) e at) (minus_value p l)))
      go (top e) = absurd (no_infinity false n (subst (λ (b : ℕ). Sized (of_bits binary32 b) false n) e at))
      go (bottom e) = absurd (no_minus_infinity false n (subst (λ (b : ℕ). Sized (of_bits binary32 b) false n) e at))
      go (none l) = absurd (no_size false n (to_bits binary32 x) l at)

  -- and of one below zero
  minus_bits : (n : ℕ) → 0 < n → Sized x true n → 2147483648 < to_bits binary32 x
  minus_bits n h v = go (class (to_bits binary32 x) (to_bits-lt binary32 x f))
    where
      at : Sized (of_bits binary32 (to_bits binary32 x)) true n
      at = subst (λ (y : Float). Sized y true n) (sym back) v

      go : Class (to_bits binary32 x) → 2147483648 < to_bits binary32 x
      go (plus l) = absurd (differ (one_sign (of_bits binary32 (to_bits binary32 x)) false true (mag (to_bits binary32 x)) n (value (to_bits binary32 x) l) at))
      go (minus p l e) =
          let k : 0 < p = above_zero p n (one_size (of_bits binary32 (p + 2147483648)) true true (mag p) n (minus_value p l) (subst (λ (b : ℕ). Sized (of_bits binary32 b) true n) e at)) h in
          omega arith
      go (top e) = absurd (no_infinity true n (subst (λ (b : ℕ). Sized (of_bits binary32 b) true n) e at))
      go (bottom e) = omega arith
      go (none l) = absurd (no_size true n (to_bits binary32 x) l at)

-- ---- the root

zero_root : (s : Bool) → root (fin s 0 (pos 0)) ≡ fin s 0 (pos 0)
unfolding root root_of to_bits of_bits
zero_root true = refl
zero_root false = refl

minus_infinity : root (inf true) ≡ nan
unfolding root root_of to_bits of_bits
minus_infinity = refl

-- with the pattern b of x, and q of its root, as variables
module _ (b q n : ℕ) (small : q < 2139095040) (near : Near (mag b * 2 ^ 149) q) (is : mag b ≡ n) where
  below_it : (c p : ℕ) → mag c ≡ p → p < mag q → (p + mag q) * (p + mag q) < 4 * (n * 2 ^ 149)
  below_it c p e h = rw (e, is) at (nearer_above (mag b * 2 ^ 149) q c near (less (dec_lt c q)))
    where
      less : Dec (c < q) → c < q
      less (yes l) = l
      less (no l) = absurd (omega (arith, mag_mono q c (omega arith)))

  above_it : (c p : ℕ) → mag c ≡ p → mag q < p → 4 * (n * 2 ^ 149) < (mag q + p) * (mag q + p)
  above_it c p e h = rw (e, is) at (nearer_below (mag b * 2 ^ 149) q c near (more (dec_lt q c)))
    where
      more : Dec (q < c) → q < c
      more (yes l) = l
      more (no l) = absurd (omega (arith, mag_mono c q (omega arith)))

nearest_root : (x : Float) (n : ℕ) → T (fits binary32 x) → 0 < n → Sized x false n → NearestRoot n (root x)
unfolding root
nearest_root x n f h v =
    let w = plus_bits x f n v in
    let o : 0 < to_bits binary32 x = above_zero (to_bits binary32 x) n w.1 h in
    let k : root_of (to_bits binary32 x) < 2139095040 = root_finite (to_bits binary32 x) o w.0 in
    let g : Near (mag (to_bits binary32 x) * 2 ^ 149) (root_of (to_bits binary32 x)) = ((root_of_is (to_bits binary32 x) (to_bits-lt binary32 x f)).root o w.0).1 in
    record {
      fit = root_fits x;
      size = mag (root_of (to_bits binary32 x));
      sized = value (root_of (to_bits binary32 x)) k;
      smaller = λ y p fy vy l. below_it (to_bits binary32 x) (root_of (to_bits binary32 x)) n k g w.1 (to_bits binary32 y) p (plus_bits y fy p vy).1 l;
      larger = λ y p fy vy l. above_it (to_bits binary32 x) (root_of (to_bits binary32 x)) n k g w.1 (to_bits binary32 y) p (plus_bits y fy p vy).1 l;
    }

negative_root : (x : Float) (n : ℕ) → T (fits binary32 x) → 0 < n → Sized x true n → root x ≡ nan
unfolding root
negative_root x n f h v =
    ap (of_bits binary32) ((root_of_is (to_bits binary32 x) (to_bits-lt binary32 x f)).negatives (minus_bits x f n h v)) ∙ reads_nan 2143289344 (omega arith)

pub root_nearest : (x : Float) → T (fits binary32 x) → IsRoot x (root x)
root_nearest x f = record {
  zeros = λ s e. ap root e ∙ zero_root s ∙ sym e;
  nearest = λ n h v. nearest_root x n f h v;
  infinity = λ e. ap root e ∙ root_infinity ∙ sym e;
  negatives = λ n h v. negative_root x n f h v;
  below_all = λ e. ap root e ∙ minus_infinity;
  nans = λ e. ap root e ∙ root_nan;
}

-- ---- every finite float has a size

abbrev Finite : Float → Type 0
Finite nan = ⊥
Finite (inf s) = ⊥
Finite (fin s m e) = Unit {0}

infinite : Finite (of_bits binary32 2139095040) → ⊥
unfolding of_bits
infinite v = v

minus_infinite : Finite (of_bits binary32 4286578688) → ⊥
unfolding of_bits
minus_infinite v = v

pub float_sized : (s : Bool) (m : ℕ) (e : ℤ) → T (fits binary32 (fin s m e)) → Sized (fin s m e) s (mag (to_bits binary32 (fin s m e) % 2147483648))
float_sized s m e f = go (class (to_bits binary32 (fin s m e)) (to_bits-lt binary32 (fin s m e) f))
  where
    here : Finite (of_bits binary32 (to_bits binary32 (fin s m e)))
    here = subst Finite (sym (back (fin s m e) f)) tt

    go : Class (to_bits binary32 (fin s m e)) → Sized (fin s m e) s (mag (to_bits binary32 (fin s m e) % 2147483648))
    go (plus l) =
        let v : Sized (fin s m e) false (mag (to_bits binary32 (fin s m e))) = subst (λ (y : Float). Sized y false (mag (to_bits binary32 (fin s m e)))) (back (fin s m e) f) (value (to_bits binary32 (fin s m e)) l) in
        let k : to_bits binary32 (fin s m e) % 2147483648 ≡ to_bits binary32 (fin s m e) = omega arith in
        (refl, rw k v.1)
    go (minus p l q) =
        let v : Sized (fin s m e) true (mag p) = subst (λ (y : Float). Sized y true (mag p)) (ap (of_bits binary32) (sym q) ∙ back (fin s m e) f) (minus_value p l) in
        let k : to_bits binary32 (fin s m e) % 2147483648 ≡ p = omega arith in
        (refl, rw k v.1)
    go (top q) = absurd (infinite (subst (λ (b : ℕ). Finite (of_bits binary32 b)) q here))
    go (bottom q) = absurd (minus_infinite (subst (λ (b : ℕ). Finite (of_bits binary32 b)) q here))
    go (none h) = absurd (subst Finite (reads_nan (to_bits binary32 (fin s m e)) h) here)
