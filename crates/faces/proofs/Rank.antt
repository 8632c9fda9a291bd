-- `beats` is the order of a number, `rank`: on finite values of binary32, y beats x exactly if x's rank is below y's. So it is a strict weak order.
use mathlib.Core.Path.{◌≡◌, refl, sym, ◌∙◌, ap, subst}
use mathlib.Core.Bool.{Bool, true, false, not, ◌&&◌, ◌||◌, and-true, and_self}
use Prim.Native.Nat.{ℕ, zero, suc, ◌+◌, ◌-◌, ◌*◌, ◌/◌, ◌%◌, zero-le, suc-le-suc, ◌^◌, ◌<◌, ◌≤◌}
use native.Mathlib.Nat.{zero-mul, zero-add, one-mul, mul-one, mul_assoc, mul_comm, mul_right_comm, not-le_of_lt, mul-div_cancel, mul-pos, div-one, mul-lt-mul_of_pos_right, lt_of_mul-lt-mul_right, mul-le-mul_right, le_of_mul-le-mul_right, eq_of_mul-eq-mul_right}
use native.Mathlib.Omega.{arith}
use lib.Dec.{T, ltb, leb, eqb, leb→le, eqb→eq, lit<, lit≤, eqb-suc-zero}
use lib.Arith.{lt_of_le-ne}
use lib.Pow.{pow-add, pow-lt, pow_pos}
use lib.IntN.{ℤ, pos, negsuc}
use lib.Ieee.{Float, nan, inf, fin, binary32, up, down, fits, lt, eq, neg, of_bits, below, level}
use lib.Ieee.Fits.{and_l, and_r, up_pos, down_pos}
use borrow.Author.Tests.{ltb-true, ltb-false, leb-true, leb-false, eqb-true, eqb-false, lt-ltb, le-ltb, eq-eqb, ne_eqb}
use Rattle.std.specs.Float.{float_with_sign}
use Rattle.vector.specs.Finite.{is_finite}
use Rattle.faces.specs.Best.{size_of, positive, beats}

-- the magnitude in units of the smallest value, 2 ^ -149
abbrev units : Float → ℕ
units nan = 0
units (inf s) = 0
units (fin s m e) = m * up e * 2 ^ 149 / down e

abbrev bit : Bool → ℕ
bit true = 1
bit false = 0

-- by magnitude, and of equal ones the positive above the other
pub rank : Float → ℕ
rank x = units x * 2 + bit (positive x)

-- ---- tests that agree

same_ltb : (a b c d : ℕ) → (a < b → c < d) → (b ≤ a → d ≤ c) → ltb a b ≡ ltb c d
same_ltb a b c d f g = go (ltb a b) refl
  where
    go : (t : Bool) → ltb a b ≡ t → t ≡ ltb c d
    go true e = sym (lt-ltb c d (f (ltb-true a b e)))
    go false e = sym (le-ltb c d (g (ltb-false a b e)))

same_eqb : (a b c d : ℕ) → (a ≡ b → c ≡ d) → (c ≡ d → a ≡ b) → eqb a b ≡ eqb c d
same_eqb a b c d f g = go (eqb a b) refl
  where
    go : (t : Bool) → eqb a b ≡ t → t ≡ eqb c d
    go true e = sym (eq-eqb c d (f (eqb-true a b e)))
    go false e = sym (ne_eqb c d (λ h. eqb-false a b e (g h)))

-- ---- fractions a / p and b / q in units of 1 / k

module _ (a b p q k u v : ℕ) (P : 0 < p) (Q : 0 < q) (K : 0 < k) (hu : u * p ≡ a * k) (hv : v * q ≡ b * k) where
  left : a * q * k ≡ u * (p * q)
  left = mul_right_comm a q k ∙ ap (λ (z : ℕ). z * q) (sym hu) ∙ mul_assoc u p q

  right : b * p * k ≡ v * (p * q)
  right = mul_right_comm b p k ∙ ap (λ (z : ℕ). z * p) (sym hv) ∙ mul_assoc v q p ∙ ap (λ (z : ℕ). v * z) (mul_comm q p)

  cross_ltb : ltb (a * q) (b * p) ≡ ltb u v
  cross_ltb =
      same_ltb (a * q) (b * p) u v
      (λ h. lt_of_mul-lt-mul_right (p * q) (rw (← left, ← right) (mul-lt-mul_of_pos_right h K)))
      (λ h. le_of_mul-le-mul_right (rw (← left, ← right) (mul-le-mul_right k h)) (mul-pos P Q))

  cross_eqb : eqb (a * q) (b * p) ≡ eqb u v
  cross_eqb =
      same_eqb (a * q) (b * p) u v
      (λ h. eq_of_mul-eq-mul_right (p * q) (mul-pos P Q) u v (sym left ∙ ap (λ (z : ℕ). z * k) h ∙ right))
      (λ h. eq_of_mul-eq-mul_right k K (a * q) (b * p) (left ∙ ap (λ (z : ℕ). z * (p * q)) h ∙ sym right))

-- ---- exact units

at_most : (k : ℕ) → 2 ^ suc k ≤ 2 ^ 149 → suc k ≤ 149
at_most k h = go (leb (suc k) 149) refl
  where
    go : (t : Bool) → leb (suc k) 149 ≡ t → suc k ≤ 149
    go true e = leb-true (suc k) 149 e
    go false e = absurd (not-le_of_lt (pow-lt (leb-false (suc k) 149 e)) h)

whole : (e : ℤ) → down e ≤ 2 ^ 149 → (a : ℕ) → a * 2 ^ 149 / down e * down e ≡ a * 2 ^ 149
whole (pos k) h a = rw (div-one, mul-one)
whole (negsuc k) h a =
    let j : ℕ = 149 - suc k in
    let m : suc k ≤ 149 = at_most k h in
    let e : j + suc k ≡ 149 = omega arith in
    let s : 2 ^ 149 ≡ 2 ^ j * 2 ^ suc k = ap (λ (z : ℕ). 2 ^ z) (sym e) ∙ pow-add 2 j (suc k) in
    subst (λ (z : ℕ). a * z / 2 ^ suc k * 2 ^ suc k ≡ a * z) (sym s) (rw (← mul_assoc) (ap (λ (z : ℕ). z * 2 ^ suc k) (mul-div_cancel (a * 2 ^ j) (pow_pos (suc k)))))

-- what fits has an exponent of at least -149
low_enough : (s : Bool) (m : ℕ) (e : ℤ) → T (fits binary32 (fin s m e)) → down e ≤ 2 ^ 149
unfolding fits
low_enough s zero (pos k) t = lit≤ tt
low_enough s zero (negsuc k) t =
    subst (λ (z : ℕ). z ≤ 2 ^ 149) (sym (sym (one-mul (2 ^ suc k)) ∙ eqb→eq (1 * 2 ^ suc k) 1 t)) (lit≤ tt)
low_enough s (suc m) e t =
    let a : Bool = eqb (suc m % 2) 1 && ltb (suc m) (2 ^ 24) in
    let b : Bool = leb (down e) (2 ^ 149) in
    leb→le (down e) (2 ^ 149) (and_r a b (and_l (a && b) (ltb (suc m * up e) (2 ^ 128 * down e)) t))

exact : (s : Bool) (m : ℕ) (e : ℤ) → T (fits binary32 (fin s m e)) → units (fin s m e) * down e ≡ m * up e * 2 ^ 149
exact s m e t = whole e (low_enough s m e t) (m * up e)

-- ---- comparisons of absolute values

-- the sign that size_of leaves: of a zero its own, and of any other number none
abbrev kept : Bool → ℕ → Bool
kept s m = s && eqb m 0

size_is : (s : Bool) (m : ℕ) (e : ℤ) → size_of (fin s m e) ≡ fin (kept s m) m e
unfolding lt neg of_bits
size_is false m e = rw (zero-mul, le-ltb (m * up e * 1) 0 zero-le)
size_is true zero e = simp zero-mul
size_is true (suc m) e =
    let h : 0 < suc m * up e = mul-pos (suc-le-suc zero-le) (up_pos e) in
    rw (lt-ltb 0 (suc m * up e * 1 + 0 * down e) (omega arith), eqb-suc-zero m)

below_is : (b c : Bool) (x y : ℕ) → (b ≡ true → x ≡ 0) → (c ≡ true → y ≡ 0) → below b x c y ≡ ltb x y
below_is false false x y f g = refl
below_is false true x y f g = sym (le-ltb x y (rw (g refl) zero-le))
below_is true false x y f g = rw (f refl, zero-add)
below_is true true x y f g = rw (f refl, g refl)

level_is : (b c : Bool) (x y : ℕ) → (b ≡ true → x ≡ 0) → (c ≡ true → y ≡ 0) → level b x c y ≡ eqb x y
level_is false false x y f g = and-true (eqb x y)
level_is false true x y f g = rw (g refl) (and_self (eqb x 0))
level_is true false x y f g = rw (f refl) (and-true (eqb 0 y))
level_is true true x y f g = and-true (eqb x y)

none : (s : Bool) (m r d : ℕ) → kept s m ≡ true → m * r * d ≡ 0
none false m r d h = absurd (subst T (sym h) tt)
none true m r d h = rw (eqb-true m 0 h, zero-mul, zero-mul)

module _ (s : Bool) (m : ℕ) (e : ℤ) (t : Bool) (n : ℕ) (d : ℤ) (X : T (fits binary32 (fin s m e))) (Y : T (fits binary32 (fin t n d))) where
  lt_fin : lt (fin (kept s m) m e) (fin (kept t n) n d) ≡ ltb (m * up e * down d) (n * up d * down e)
  unfolding lt
  lt_fin = below_is (kept s m) (kept t n) _ _ (none s m (up e) (down d)) (none t n (up d) (down e))

  size_lt : lt (size_of (fin s m e)) (size_of (fin t n d)) ≡ ltb (units (fin s m e)) (units (fin t n d))
  size_lt =
      ap (λ (z : Float). lt z (size_of (fin t n d))) (size_is s m e) ∙ ap (lt (fin (kept s m) m e)) (size_is t n d)
      ∙ lt_fin
      ∙ cross_ltb (m * up e) (n * up d) (down e) (down d) (2 ^ 149) _ _ (down_pos e) (down_pos d) (lit< tt) (exact s m e X) (exact t n d Y)

  eq_fin : eq (fin (kept s m) m e) (fin (kept t n) n d) ≡ eqb (m * up e * down d) (n * up d * down e)
  unfolding eq
  eq_fin = level_is (kept s m) (kept t n) _ _ (none s m (up e) (down d)) (none t n (up d) (down e))

  size_eq : eq (size_of (fin s m e)) (size_of (fin t n d)) ≡ eqb (units (fin s m e)) (units (fin t n d))
  size_eq =
      ap (λ (z : Float). eq z (size_of (fin t n d))) (size_is s m e) ∙ ap (eq (fin (kept s m) m e)) (size_is t n d)
      ∙ eq_fin
      ∙ cross_eqb (m * up e) (n * up d) (down e) (down d) (2 ^ 149) _ _ (down_pos e) (down_pos d) (lit< tt) (exact s m e X) (exact t n d Y)

-- ---- what `abs` gives, whose zeros are above zero: no comparison sees the difference

sized : Float → Float
sized nan = nan
sized (inf s) = inf false
sized (fin s m e) = fin (kept s m) m e

sized_is : (x : Float) → size_of x ≡ sized x
unfolding sized lt neg of_bits
sized_is nan = refl
sized_is (inf true) = refl
sized_is (inf false) = refl
sized_is (fin s m e) = size_is s m e

abs_lt : (x y : Float) → lt (float_with_sign false x) (float_with_sign false y) ≡ lt (sized x) (sized y)
unfolding sized lt float_with_sign
abs_lt nan y = refl
abs_lt (inf s) nan = refl
abs_lt (inf s) (inf t) = refl
abs_lt (inf s) (fin t n d) = refl
abs_lt (fin s m e) nan = refl
abs_lt (fin s m e) (inf t) = refl
abs_lt (fin s m e) (fin t n d) = sym (below_is (kept s m) (kept t n) _ _ (none s m (up e) (down d)) (none t n (up d) (down e)))

abs_eq : (x y : Float) → eq (float_with_sign false x) (float_with_sign false y) ≡ eq (sized x) (sized y)
unfolding sized eq float_with_sign
abs_eq nan y = refl
abs_eq (inf s) nan = refl
abs_eq (inf s) (inf t) = refl
abs_eq (inf s) (fin t n d) = refl
abs_eq (fin s m e) nan = refl
abs_eq (fin s m e) (inf t) = refl
abs_eq (fin s m e) (fin t n d) =
    and-true (eqb (m * up e * down d) (n * up d * down e)) ∙ sym (level_is (kept s m) (kept t n) _ _ (none s m (up e) (down d)) (none t n (up d) (down e)))

pub beats_abs : (y x : Float) → beats y x ≡ (lt (float_with_sign false x) (float_with_sign false y) || (eq (float_with_sign false x) (float_with_sign false y) && (positive y && not (positive x))))
unfolding beats
beats_abs y x = rw (abs_lt x y, abs_eq x y, sized_is x, sized_is y)

-- ---- the order

bit_le : (b : Bool) → bit b ≤ 1
bit_le true = lit≤ tt
bit_le false = lit≤ tt

lex : (u v : ℕ) (p q : Bool) → (ltb u v || (eqb u v && (q && not p))) ≡ ltb (u * 2 + bit p) (v * 2 + bit q)
lex u v p q = go (ltb u v) (eqb u v) refl refl
  where
    even : (p q : Bool) → u ≡ v → (q && not p) ≡ ltb (u * 2 + bit p) (v * 2 + bit q)
    even true true e = sym (le-ltb (u * 2 + 1) (v * 2 + 1) (omega arith))
    even true false e = sym (le-ltb (u * 2 + 1) (v * 2 + 0) (omega arith))
    even false true e = sym (lt-ltb (u * 2 + 0) (v * 2 + 1) (omega arith))
    even false false e = sym (le-ltb (u * 2 + 0) (v * 2 + 0) (omega arith))

    go : (a b : Bool) → ltb u v ≡ a → eqb u v ≡ b → (a || (b && (q && not p))) ≡ ltb (u * 2 + bit p) (v * 2 + bit q)
    go true b h k = sym (lt-ltb (u * 2 + bit p) (v * 2 + bit q) (omega (arith, ltb-true u v h, bit_le p)))
    go false true h k = even p q (eqb-true u v k)
    go false false h k =
        let more : v < u = lt_of_le-ne (ltb-false u v h) (λ z. eqb-false u v k (sym z)) in
        sym (le-ltb (u * 2 + bit p) (v * 2 + bit q) (omega (arith, bit_le q)))

pub beats_is : (y x : Float) → T (is_finite y) → T (is_finite x) → T (fits binary32 y) → T (fits binary32 x) → beats y x ≡ ltb (rank x) (rank y)
unfolding beats rank
beats_is (fin t n d) (fin s m e) fy fx Y X =
    rw (size_lt s m e t n d X Y, size_eq s m e t n d X Y) (lex (units (fin s m e)) (units (fin t n d)) (positive (fin s m e)) (positive (fin t n d)))
beats_is nan x fy fx Y X = absurd fy
beats_is (inf t) x fy fx Y X = absurd fy
beats_is (fin t n d) nan fy fx Y X = absurd fx
beats_is (fin t n d) (inf s) fy fx Y X = absurd fx
