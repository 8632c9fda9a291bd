-- Laws of `mag` and `Near`. Assumes nothing.
use mathlib.Core.Path.{◌≡◌, refl, sym, ap, ◌∙◌, subst}
use mathlib.Core.Logic.{◌⊎◌, ⊎_elim}
use Prim.Native.Nat.{ℕ, zero, suc, ◌+◌, ◌-◌, ◌*◌, ◌/◌, ◌%◌, ◌^◌, ◌≤◌, ◌<◌}
use native.Mathlib.Nat.{le_refl, le_trans, le_of_lt, lt_of_lt_of_le, lt_of_le_of_lt, lt_irrefl, le_dest, add-suc, add-zero, mul_assoc, mul_right_comm, add-mul, add_assoc, add_comm, mul-le-mul, mul-le-mul_left, mul-le-mul_right, mul-lt-mul_of_pos_right, mul-mul-mul_comm, mul-pos, pow-suc}
use native.Mathlib.Decide.{dec_le, dec_lt}
use native.Mathlib.Omega.{arith}
use lib.Pow.{pow_pos, pow-add, pow_mono}
use lib.Count.{count_leading_zeros, leading_top}
use Rattle.sqrt.specs.Root.{sized, mag, Near, Sqrt}

-- ---- squares

pub sq_lt : (a b : ℕ) → a < b → a * a < b * b
sq_lt a b h = lt_of_le_of_lt (mul-le-mul_left a (le_of_lt h)) (mul-lt-mul_of_pos_right h (omega arith))

pub sq_le : (a b : ℕ) → a ≤ b → a * a ≤ b * b
sq_le a b h = mul-le-mul h h

-- the square of an odd number is odd
odd_square : (r : ℕ) → r % 2 ≡ 1 → r * r % 2 ≡ 1
odd_square r h =
    let k = r / 2 in
    let e : r ≡ k + k + 1 = omega arith in
    let s : r * r ≡ (k + k + 1) * (k + k + 1) = ap (λ (x : ℕ). x * x) e in
    let p : (k + k + 1) * (k + k + 1) ≡ (k + k) * (k + k + 1) + 1 * (k + k + 1) = add-mul (k + k) 1 (k + k + 1) in
    let q : (k + k) * (k + k + 1) ≡ k * (k + k + 1) + k * (k + k + 1) = add-mul k k (k + k + 1) in
    omega arith

-- ---- mag, by the field and the digits

pub mag_is : (b x t : ℕ) → b / 8388608 ≡ x → b % 8388608 ≡ t → mag b ≡ sized x t
unfolding mag
mag_is b x t e f = rw (e, f)

pub mag_at : (j s : ℕ) → 8388608 ≤ s → s < 16777216 → mag (j * 8388608 + s) ≡ s * 2 ^ j
unfolding sized
mag_at j s h k =
    let b = j * 8388608 + s in
    let e : b / 8388608 ≡ suc j = omega arith in
    let f : b % 8388608 ≡ s - 8388608 = omega arith in
    let g : 8388608 + (s - 8388608) ≡ s = omega arith in
    mag_is b (suc j) (s - 8388608) e f ∙ ap (λ (x : ℕ). x * 2 ^ j) g

mag_top : (j : ℕ) → mag (j * 8388608 + 16777216) ≡ 16777216 * 2 ^ j
mag_top j =
    let e : j * 8388608 + 16777216 ≡ suc j * 8388608 + 8388608 = omega arith in
    let p : 2 ^ suc j ≡ 2 ^ j * 2 = pow-suc 2 j in
    let q = mag_at (suc j) 8388608 (le_refl 8388608) (omega arith) in
    ap mag e ∙ q ∙ (omega arith)

-- ---- mag grows

sized_digit : (x t : ℕ) → sized x t < sized x (suc t)
unfolding sized
sized_digit zero t = le_refl (suc t)
sized_digit (suc x) t = mul-lt-mul_of_pos_right (omega arith) (pow_pos x)

sized_field : (x : ℕ) → sized x 8388607 < sized (suc x) 0
unfolding sized
sized_field zero = omega arith
sized_field (suc x) =
    let p : 2 ^ suc x ≡ 2 ^ x * 2 = pow-suc 2 x in
    let q : 0 < 2 ^ x = pow_pos x in
    omega arith

pub mag_step : (p : ℕ) → mag p < mag (suc p)
mag_step p = go (dec_lt (p % 8388608) 8388607)
  where
    go : Dec (p % 8388608 < 8388607) → mag p < mag (suc p)
    go (yes h) =
        let e : suc p / 8388608 ≡ p / 8388608 = omega arith in
        let f : suc p % 8388608 ≡ suc (p % 8388608) = omega arith in
        rw (mag_is p (p / 8388608) (p % 8388608) refl refl, mag_is (suc p) (p / 8388608) (suc (p % 8388608)) e f) (sized_digit (p / 8388608) (p % 8388608))
    go (no h) =
        let t : p % 8388608 ≡ 8388607 = omega arith in
        let e : suc p / 8388608 ≡ suc (p / 8388608) = omega arith in
        let f : suc p % 8388608 ≡ 0 = omega arith in
        rw (mag_is p (p / 8388608) 8388607 refl t, mag_is (suc p) (suc (p / 8388608)) 0 e f) (sized_field (p / 8388608))

mag_add : (p k : ℕ) → mag p ≤ mag (p + k)
mag_add p zero = rw add-zero (le_refl (mag p))
mag_add p (suc k) = rw add-suc (le_trans (mag_add p k) (le_of_lt (mag_step (p + k))))

pub mag_mono : (p q : ℕ) → p ≤ q → mag p ≤ mag q
mag_mono p q h = subst (λ (x : ℕ). mag p ≤ mag x) (le_dest h).1 (mag_add p (le_dest h).0)

pub mag_lt : (p q : ℕ) → p < q → mag p < mag q
mag_lt p q h = lt_of_lt_of_le (mag_step p) (mag_mono (suc p) q h)

-- ---- what `Near` says: q is nearer to √n than every other pattern p is: √n is on q's side of the midpoint (mag p + mag q) / 2

pub nearer_above : (n q p : ℕ) → Near n q → p < q → (mag p + mag q) * (mag p + mag q) < 4 * n
nearer_above n q p h l =
    lt_of_le_of_lt (sq_le (mag p + mag q) (mag (q - 1) + mag q) (omega (arith, mag_mono p (q - 1) (omega arith)))) h.above

pub nearer_below : (n q p : ℕ) → Near n q → q < p → 4 * n < (mag q + mag p) * (mag q + mag p)
nearer_below n q p h l =
    lt_of_lt_of_le h.below (sq_le (mag q + mag (q + 1)) (mag q + mag p) (omega (arith, mag_mono (q + 1) p (omega arith))))

-- so there is only one
pub near_unique : (n p q : ℕ) → Near n p → Near n q → p ≡ q
near_unique n p q h k = go (dec_lt p q) (dec_lt q p)
  where
    apart : (a b : ℕ) → Near n a → Near n b → a < b → ⊥
    apart a b f g l = lt_irrefl (4 * n) (lt_of_lt_of_le (nearer_below n a b f l) (le_of_lt (nearer_above n b a g l)))

    go : Dec (p < q) → Dec (q < p) → p ≡ q
    go (yes l) m = absurd (apart p q h k l)
    go (no l) (yes m) = absurd (apart q p k h m)
    go (no l) (no m) = omega arith

-- ---- the rounding

-- From the whole root r of an even a with 4 * n ≡ a * 4 ^ j, r of 25 digits, to the nearest pattern: (r + 1) / 2 is its significand, with the leading digit.
module _ (n a j r : ℕ) (scaled : 4 * n ≡ a * (2 ^ j * 2 ^ j)) (even : a % 2 ≡ 0) (lo : 16777216 ≤ r) (hi : r + 1 < 33554432) (le : r * r ≤ a) (lt : a < (r + 1) * (r + 1)) where
  shifted : (x : ℕ) → x * 2 ^ j * (x * 2 ^ j) ≡ x * x * (2 ^ j * 2 ^ j)
  shifted x = mul-mul-mul_comm x (2 ^ j) x (2 ^ j)

  pos : 0 < 2 ^ j * 2 ^ j
  pos = mul-pos (pow_pos j) (pow_pos j)

  -- the sum of q's size and its lower neighbour's, from the sum of the two
  under_even : (x : ℕ) → x < r * 2 ^ j → x * x < 4 * n
  under_even x h =
      let p : x * x < r * 2 ^ j * (r * 2 ^ j) = sq_lt x (r * 2 ^ j) h in
      let q : r * r * (2 ^ j * 2 ^ j) ≤ a * (2 ^ j * 2 ^ j) = mul-le-mul_right (2 ^ j * 2 ^ j) le in
      omega (arith, shifted r)

  under_odd : (x : ℕ) → r * r < a → x ≡ r * 2 ^ j → x * x < 4 * n
  under_odd x h e =
      let p : x * x ≡ r * 2 ^ j * (r * 2 ^ j) = ap (λ (y : ℕ). y * y) e in
      let q : r * r * (2 ^ j * 2 ^ j) < a * (2 ^ j * 2 ^ j) = mul-lt-mul_of_pos_right h pos in
      omega (arith, shifted r)

  over : (x : ℕ) → (r + 1) * 2 ^ j ≤ x → 4 * n < x * x
  over x h =
      let p : (r + 1) * 2 ^ j * ((r + 1) * 2 ^ j) ≤ x * x = sq_le ((r + 1) * 2 ^ j) x h in
      let q : a * (2 ^ j * 2 ^ j) < (r + 1) * (r + 1) * (2 ^ j * 2 ^ j) = mul-lt-mul_of_pos_right lt pos in
      omega (arith, shifted (r + 1))

  module _ (s : ℕ) (half : s ≡ (r + 1) / 2) where
    here : mag (j * 8388608 + s) ≡ s * 2 ^ j
    here = mag_at j s (omega arith) (omega arith)

    next : mag (j * 8388608 + s + 1) ≡ (s + 1) * 2 ^ j
    next = go (dec_lt (s + 1) 16777216)
      where
        go : Dec (s + 1 < 16777216) → mag (j * 8388608 + s + 1) ≡ (s + 1) * 2 ^ j
        go (yes h) = ap mag (add_assoc (j * 8388608) s 1) ∙ mag_at j (s + 1) (omega arith) h
        go (no h) =
            let e : s + 1 ≡ 16777216 = omega arith in
            ap mag (add_assoc (j * 8388608) s 1) ∙ rw e (mag_top j)

    is_above : (mag (j * 8388608 + s - 1) + mag (j * 8388608 + s)) * (mag (j * 8388608 + s - 1) + mag (j * 8388608 + s)) < 4 * n
    is_above = go (dec_lt (r % 2) 1)
      where
        go : Dec (r % 2 < 1) → (mag (j * 8388608 + s - 1) + mag (j * 8388608 + s)) * (mag (j * 8388608 + s - 1) + mag (j * 8388608 + s)) < 4 * n
        go (yes h) =
            let e : r * 2 ^ j ≡ s * 2 ^ j + s * 2 ^ j = ap (λ (x : ℕ). x * 2 ^ j) (the_same (omega arith)) ∙ add-mul s s (2 ^ j) in
            under_even (mag (j * 8388608 + s - 1) + mag (j * 8388608 + s)) (omega (arith, here, mag_lt (j * 8388608 + s - 1) (j * 8388608 + s) (omega arith)))
          where
            the_same : r ≡ s + s → r ≡ s + s
            the_same x = x
        go (no h) =
            let t = s - 1 in
            let e : r * 2 ^ j ≡ t * 2 ^ j + s * 2 ^ j = ap (λ (x : ℕ). x * 2 ^ j) (the_same t (omega arith)) ∙ add-mul t s (2 ^ j) in
            let f : mag (j * 8388608 + s - 1) ≡ t * 2 ^ j = ap mag (moved t (omega arith)) ∙ mag_at j t (omega arith) (omega arith) in
            under_odd (mag (j * 8388608 + s - 1) + mag (j * 8388608 + s)) (omega (arith, odd_square r (omega arith))) (omega (arith, here))
          where
            the_same : (t : ℕ) → r ≡ t + s → r ≡ t + s
            the_same t x = x

            moved : (t : ℕ) → j * 8388608 + s - 1 ≡ j * 8388608 + t → j * 8388608 + s - 1 ≡ j * 8388608 + t
            moved t x = x

    is_below : 4 * n < (mag (j * 8388608 + s) + mag (j * 8388608 + s + 1)) * (mag (j * 8388608 + s) + mag (j * 8388608 + s + 1))
    is_below =
        let e : (r + 1) * 2 ^ j ≤ (s + (s + 1)) * 2 ^ j = mul-le-mul_right (2 ^ j) (omega arith) in
        let f : (s + (s + 1)) * 2 ^ j ≡ s * 2 ^ j + (s + 1) * 2 ^ j = add-mul s (s + 1) (2 ^ j) in
        over (mag (j * 8388608 + s) + mag (j * 8388608 + s + 1)) (omega (arith, here, next))

    pub rounds : Near n (j * 8388608 + s)
    rounds = record { above = is_above; below = is_below }

-- ---- the scaling: a root of 25 digits

not_below : (a b : ℕ) → (b ≤ a → ⊥) → a < b
not_below a b h = omega arith

pub root_bounds : (a r : ℕ) → 281474976710656 ≤ a → a ≤ 1125899839733760 → r * r ≤ a → a < (r + 1) * (r + 1) → (16777216 ≤ r) × (r + 1 < 33554432)
root_bounds a r lo hi le lt = (
  not_below 16777215 r (λ h. let p : (r + 1) * (r + 1) ≤ 281474976710656 = sq_le (r + 1) 16777216 (omega arith) in omega arith),
  not_below (r + 1) 33554432 (λ h. let p : 1125899839733761 ≤ r * r = sq_le 33554431 r (omega arith) in omega arith),
)

-- 4 * (m * 2 ^ (h + 24)) is the scaled significand by 4 ^ j, for j half of h, rounded up
four : (m h : ℕ) → 4 * (m * 2 ^ (h + 24)) ≡ m * 2 ^ h * 67108864
four m h =
    let p : 2 ^ (h + 24) ≡ 2 ^ h * 16777216 = pow-add 2 h 24 in
    let q : m * 2 ^ (h + 24) ≡ m * 2 ^ h * 16777216 = ap (λ (x : ℕ). m * x) p ∙ sym (mul_assoc m (2 ^ h) 16777216) in
    omega arith

pub scale_even : (m h : ℕ) → h % 2 ≡ 0 → 4 * (m * 2 ^ (h + 24)) ≡ m * 67108864 * (2 ^ ((h + 1) / 2) * 2 ^ ((h + 1) / 2))
scale_even m h e =
    let j = (h + 1) / 2 in
    let f : j + j ≡ h = omega arith in
    let p : 2 ^ h ≡ 2 ^ j * 2 ^ j = ap (λ (x : ℕ). 2 ^ x) (sym f) ∙ pow-add 2 j j in
    four m h ∙ mul_right_comm m (2 ^ h) 67108864 ∙ ap (λ (x : ℕ). m * 67108864 * x) p

pub scale_odd : (m h : ℕ) → (h % 2 ≡ 0 → ⊥) → 4 * (m * 2 ^ (h + 24)) ≡ m * 33554432 * (2 ^ ((h + 1) / 2) * 2 ^ ((h + 1) / 2))
scale_odd m h e =
    let j = (h + 1) / 2 in
    let f : j + j ≡ suc h = omega arith in
    let p : 2 ^ h * 2 ≡ 2 ^ j * 2 ^ j = sym (pow-suc 2 h) ∙ ap (λ (x : ℕ). 2 ^ x) (sym f) ∙ pow-add 2 j j in
    let q : m * 33554432 * (2 ^ j * 2 ^ j) ≡ m * (2 ^ j * 2 ^ j) * 33554432 = mul_right_comm m 33554432 (2 ^ j * 2 ^ j) in
    let g : m * (2 ^ j * 2 ^ j) ≡ m * 2 ^ h * 2 = ap (λ (x : ℕ). m * x) (sym p) ∙ sym (mul_assoc m (2 ^ h) 2) in
    omega (arith, four m h)

-- both ways together
abbrev pub Scaling : ℕ → ℕ → ℕ → Type 0
Scaling m h a = ((h % 2 ≡ 0) × (a ≡ m * 67108864)) ⊎ ((h % 2 ≡ 0 → ⊥) × (a ≡ m * 33554432))

module _ (m h a : ℕ) (lo : 8388608 ≤ m) (hi : m < 16777216) (w : Scaling m h a) where
  pub scaling_bounds : (281474976710656 ≤ a) × (a ≤ 1125899839733760) × (a % 2 ≡ 0)
  scaling_bounds = ⊎_elim (λ (v : (h % 2 ≡ 0) × (a ≡ m * 67108864)). omega arith) (λ (v : (h % 2 ≡ 0 → ⊥) × (a ≡ m * 33554432)). omega arith) w

  scaling_is : 4 * (m * 2 ^ (h + 24)) ≡ a * (2 ^ ((h + 1) / 2) * 2 ^ ((h + 1) / 2))
  scaling_is = ⊎_elim (λ (v : (h % 2 ≡ 0) × (a ≡ m * 67108864)). rw v.1 (scale_even m h v.0)) (λ (v : (h % 2 ≡ 0 → ⊥) × (a ≡ m * 33554432)). rw v.1 (scale_odd m h v.0)) w

  pub rounded_near : (r : ℕ) → r * r ≤ a → a < (r + 1) * (r + 1) → (16777216 ≤ r) × (r + 1 < 33554432) × Near (m * 2 ^ (h + 24)) ((h + 1) / 2 * 8388608 + (r + 1) / 2)
  rounded_near r le lt =
      let b = root_bounds a r scaling_bounds.0 scaling_bounds.1 le lt in
      (b.0, b.1, rounds (m * 2 ^ (h + 24)) a ((h + 1) / 2) r scaling_is scaling_bounds.2 b.0 b.1 le lt ((r + 1) / 2) refl)

-- ---- the classes of patterns

pub is_zero : (b : ℕ) → b < 4294967296 → b % 2147483648 ≡ 0 → Sqrt b b
is_zero b f h = record {
  zeros = λ _. refl;
  root = λ k l. absurd (omega arith);
  infinity = λ _. refl;
  nans = λ k l. absurd (omega arith);
  negatives = λ k. absurd (omega arith);
}

pub is_infinity : (b : ℕ) → b ≡ 2139095040 → Sqrt b b
is_infinity b h = record {
  zeros = λ _. refl;
  root = λ k l. absurd (omega arith);
  infinity = λ _. refl;
  nans = λ k l. absurd (omega arith);
  negatives = λ k. absurd (omega arith);
}

pub is_invalid : (b : ℕ) → 2139095040 < b → (b ≡ 2147483648 → ⊥) → b < 4294967296 → Sqrt b 2143289344
is_invalid b h n f = record {
  zeros = λ k. absurd (n (omega arith));
  root = λ k l. absurd (omega arith);
  infinity = λ k. absurd (omega arith);
  nans = λ k l. refl;
  negatives = λ k. refl;
}

pub is_root : (b n q : ℕ) → 0 < b → b < 2139095040 → mag b * 2 ^ 149 ≡ n → q < 2139095040 → Near n q → Sqrt b q
is_root b n q pos fin e l h = record {
  zeros = λ k. absurd (omega arith);
  root = λ _ _. (l, rw e h);
  infinity = λ k. absurd (omega arith);
  nans = λ k m. absurd (omega arith);
  negatives = λ k. absurd (omega arith);
}

-- and there is one root
pub sqrt_unique : (b p q : ℕ) → b < 4294967296 → Sqrt b p → Sqrt b q → p ≡ q
sqrt_unique b p q f h k = go (dec_lt (b % 2147483648) 1) (dec_lt b 2139095040) (dec_le b 2139095040) (dec_lt b 2147483648)
  where
    go : Dec (b % 2147483648 < 1) → Dec (b < 2139095040) → Dec (b ≤ 2139095040) → Dec (b < 2147483648) → p ≡ q
    go (yes z) _ _ _ = h.zeros (omega arith) ∙ sym (k.zeros (omega arith))
    go (no z) (yes l) _ _ = near_unique (mag b * 2 ^ 149) p q (h.root (omega arith) l).1 (k.root (omega arith) l).1
    go (no z) (no l) (yes m) _ = h.infinity (omega arith) ∙ sym (k.infinity (omega arith))
    go (no z) (no l) (no m) (yes n) = h.nans (omega arith) n ∙ sym (k.nans (omega arith) n)
    go (no z) (no l) (no m) (no n) = h.negatives (omega arith) ∙ sym (k.negatives (omega arith))

-- ---- a normal pattern

pub normal : (b x t : ℕ) → b / 8388608 ≡ x → b % 8388608 ≡ t → 0 < x → mag b * 2 ^ 149 ≡ (t + 8388608) * 2 ^ (x + 124 + 24)
unfolding sized
normal b zero t e f h = absurd (lt_irrefl 0 h)
normal b (suc x) t e f h =
    let g : x + 149 ≡ suc x + 124 + 24 = omega arith in
    ap (λ (y : ℕ). y * 2 ^ 149) (mag_is b (suc x) t e f)
    ∙ mul_assoc (8388608 + t) (2 ^ x) (2 ^ 149)
    ∙ ap (λ (y : ℕ). y * (2 ^ x * 2 ^ 149)) (add_comm 8388608 t)
    ∙ ap (λ (y : ℕ). (t + 8388608) * y) (sym (pow-add 2 x 149) ∙ ap (λ (y : ℕ). 2 ^ y) g)

-- ---- a subnormal pattern: shifted up to 24 digits

pub record Shifted (t z : ℕ) : Type 0 where
  pub least : 9 ≤ z
  pub most : z ≤ 31
  pub large : 8388608 ≤ t * 2 ^ (z - 8)
  pub small : t * 2 ^ (z - 8) < 16777216
  pub same : t * 2 ^ (z - 8) * 2 ^ (125 - (z - 8) + 24) ≡ t * 2 ^ 149

pub shift_up : (t : ℕ) → 0 < t → t < 8388608 → Shifted t (count_leading_zeros 32 t)
shift_up t p l = go (leading_top 32 t p (omega arith))
  where
    go : (j : ℕ) × (count_leading_zeros 32 t + suc j ≡ 32) × (2 ^ j ≤ t) × (t < 2 ^ suc j) → Shifted t (count_leading_zeros 32 t)
    go (j, e, lo, hi) =
        let z = count_leading_zeros 32 t in
        let s = z - 8 in
        let j_lt : j < 23 = not_below j 23 (λ h. let p : 8388608 ≤ 2 ^ j = pow_mono h in omega arith) in
        let low : 2 ^ j * 2 ^ s ≡ 8388608 = sym (pow-add 2 j s) ∙ ap (λ (x : ℕ). 2 ^ x) (at_23 j s (omega arith)) in
        let high : 2 ^ suc j * 2 ^ s ≡ 16777216 = sym (pow-add 2 (suc j) s) ∙ ap (λ (x : ℕ). 2 ^ x) (at_24 j s (omega arith)) in
        let large' : 2 ^ j * 2 ^ s ≤ t * 2 ^ s = mul-le-mul_right (2 ^ s) lo in
        let small' : t * 2 ^ s < 2 ^ suc j * 2 ^ s = mul-lt-mul_of_pos_right hi (pow_pos s) in
        record {
          least = omega arith;
          most = omega arith;
          large = omega arith;
          small = omega arith;
          same = mul_assoc t (2 ^ s) (2 ^ (125 - s + 24)) ∙ ap (λ (x : ℕ). t * x) (sym (pow-add 2 s (125 - s + 24)) ∙ ap (λ (x : ℕ). 2 ^ x) (at_149 s (omega arith)));
        }
      where
        at_23 : (j s : ℕ) → j + s ≡ 23 → j + s ≡ 23
        at_23 j s h = h

        at_24 : (j s : ℕ) → j + s ≡ 23 → suc j + s ≡ 24
        at_24 j s h = omega arith

        at_149 : (s : ℕ) → s ≤ 23 → s + (125 - s + 24) ≡ 149
        at_149 s h = omega arith

pub subnormal : (b t : ℕ) → b / 8388608 ≡ 0 → b % 8388608 ≡ t → mag b ≡ t
unfolding sized
subnormal b t e f = mag_is b 0 t e f
