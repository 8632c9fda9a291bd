-- The root keeps the order: a smaller pattern has no larger root, and what is above the root of a pattern is above the roots of all smaller ones.
-- Assumes nothing.
use Prim.Native.Nat.{ℕ, ◌*◌, ◌%◌, ◌^◌, ◌≤◌, ◌<◌}
use native.Mathlib.Nat.{mul-le-mul_right}
use native.Mathlib.Decide.{dec_le, dec_lt}
use native.Mathlib.Omega.{arith}
use mathlib.Core.Path.{◌≡◌, sym, ap, ◌∙◌, subst}
use mathlib.Core.Bool.{true, false}
use lib.Pow.{pow_pos}
use lib.Ieee.{Float, nan, inf, fin, binary32, up, down, lt, of_bits}
use lib.Ieee.Exact.{HasValue}
use lib.Ieee.Fits.{down_pos}
use lib.Ieee.Order.{transfer}
use lib.Ieee.Positive.{through}
use borrow.Author.Tests.{ltb-true, lt-ltb}
use Rattle.sqrt.specs.Root.{mag, Near, Sqrt}
use Rattle.sqrt.specs.RootOf.{root_of}
use Rattle.sqrt.proofs.Near.{mag_mono, nearer_above, nearer_below}
use Rattle.sqrt.proofs.Function.{root_of_is}
use Rattle.sqrt.proofs.Values.{value}
use Rattle.sqrt.proofs.Bits.{reads_nan}

-- ---- patterns

near_mono : (n m p q : ℕ) → n ≤ m → Near n p → Near m q → p ≤ q
near_mono n m p q h a b = go (dec_le p q)
  where
    go : Dec (p ≤ q) → p ≤ q
    go (yes l) = l
    go (no l) =
        let u = nearer_above n p q a (omega arith) in
        let v = nearer_below m q p b (omega arith) in
        absurd (omega (arith, u, v))

pub root_mono : (b c : ℕ) → b ≤ c → c ≤ 2139095040 → root_of b ≤ root_of c
root_mono b c h l = go (dec_lt 0 b) (dec_lt c 2139095040)
  where
    s : Sqrt b (root_of b)
    s = root_of_is b (omega arith)

    t : Sqrt c (root_of c)
    t = root_of_is c (omega arith)

    go : Dec (0 < b) → Dec (c < 2139095040) → root_of b ≤ root_of c
    go (no z) _ = let e : root_of b ≡ b = s.zeros (omega arith) in omega arith
    go (yes z) (yes k) =
        near_mono (mag b * 2 ^ 149) (mag c * 2 ^ 149) (root_of b) (root_of c) (mul-le-mul_right (2 ^ 149) (mag_mono b c h)) (s.root z (omega arith)).1 (t.root (omega arith) k).1
    go (yes z) (no k) = top (dec_lt b 2139095040)
      where
        e : root_of c ≡ c
        e = t.infinity (omega arith)

        top : Dec (b < 2139095040) → root_of b ≤ root_of c
        top (yes f) = let g : root_of b < 2139095040 = (s.root z f).0 in omega (arith, e)
        top (no f) = let g : root_of b ≡ b = s.infinity (omega arith) in omega (arith, e)

-- ---- floats

-- m / e is no more than m' / e', in the same units, and that is below n / d
cross : (m m' n d e e' a a' c : ℕ) → 0 < c → 0 < e → m * c ≡ a * e → m' * c ≡ a' * e' → a ≤ a' → m' * d < n * e' → m * d < n * e
cross m m' n d e e' a a' c pc pe h h' l k = go (dec_lt (m * d) (n * e))
  where
    go : Dec (m * d < n * e) → m * d < n * e
    go (yes y) = y
    go (no y) = absurd (omega (arith, through n m m' d e e' pe (omega arith) (transfer m m' e e' a a' c c pc pc h h' (mul-le-mul_right c l))))

not_so : false ≡ true → ⊥
not_so h = let z : ◌≡◌ {A = ℕ} 0 1 = cc in absurd (omega arith)

-- of two sizes the smaller is below whatever the larger is below
lt_lower : (x y z : Float) (a b c : ℕ) → 0 < c → HasValue x false a c → HasValue y false b c → a ≤ b → lt y z ≡ true → lt x z ≡ true
unfolding lt
lt_lower nan y z a b c p v w l h = absurd v
lt_lower (inf s) y z a b c p v w l h = absurd v
lt_lower (fin s m e) nan z a b c p v w l h = absurd w
lt_lower (fin s m e) (inf s') z a b c p v w l h = absurd w
lt_lower (fin s m e) (fin s' m' e') nan a b c p v w l h = h
lt_lower (fin s m e) (fin s' m' e') (inf t) a b c p v w l h = h
lt_lower (fin true m e) (fin s' m' e') (fin t n d) a b c p v w l h = absurd (not_so (sym v.0))
lt_lower (fin false m e) (fin true m' e') (fin t n d) a b c p v w l h = absurd (not_so (sym w.0))
lt_lower (fin false m e) (fin false m' e') (fin true n d) a b c p v w l h = h
lt_lower (fin false m e) (fin false m' e') (fin false n d) a b c p v w l h =
    lt-ltb _ _ (cross (m * up e) (m' * up e') (n * up d) (down d) (down e) (down e') a b c p (down_pos e) v.1 w.1 l (ltb-true _ _ h))

infinity_last : (z : Float) → lt (of_bits binary32 2139095040) z ≡ true → ⊥
unfolding lt of_bits
infinity_last nan h = not_so h
infinity_last (inf t) h = not_so h
infinity_last (fin t n d) h = not_so h

bits_lower : (p q : ℕ) (z : Float) → p ≤ q → q ≤ 2139095040 → lt (of_bits binary32 q) z ≡ true → lt (of_bits binary32 p) z ≡ true
bits_lower p q z h l k = go (dec_lt q 2139095040)
  where
    go : Dec (q < 2139095040) → lt (of_bits binary32 p) z ≡ true
    go (yes f) = lt_lower (of_bits binary32 p) (of_bits binary32 q) z (mag p) (mag q) (2 ^ 149) (pow_pos 149) (value p (omega arith)) (value q f) (mag_mono p q h) k
    go (no f) = let e : q ≡ 2139095040 = omega arith in absurd (infinity_last z (ap (λ (r : ℕ). lt (of_bits binary32 r) z) (sym e) ∙ k))

nan_last : (z : Float) → lt nan z ≡ true → ⊥
unfolding lt
nan_last z h = not_so h

-- where z is above the root of b, it is above the root of every pattern below b, its sign aside
pub below_root : (b : ℕ) (z : Float) → b < 4294967296 → lt (of_bits binary32 (root_of b)) z ≡ true → (p : ℕ) → p < b % 2147483648 → lt (of_bits binary32 (root_of p)) z ≡ true
below_root b z f h p l = go (dec_le b 2139095040)
  where
    s : Sqrt b (root_of b)
    s = root_of_is b f

    bad : root_of b ≡ 2143289344 → ⊥
    bad e = nan_last z (subst (λ (x : Float). lt x z ≡ true) (ap (of_bits binary32) e ∙ reads_nan 2143289344 (omega arith)) h)

    large : 2139095040 < b → Dec (b < 2147483648) → lt (of_bits binary32 (root_of p)) z ≡ true
    large a (yes k) = absurd (bad (s.nans a k))
    large a (no k) = absurd (bad (s.negatives (omega arith)))

    go : Dec (b ≤ 2139095040) → lt (of_bits binary32 (root_of p)) z ≡ true
    go (yes k) = bits_lower (root_of p) (root_of b) z (root_mono p b (omega arith) k) (finite (dec_lt 0 b) (dec_lt b 2139095040)) h
      where
        finite : Dec (0 < b) → Dec (b < 2139095040) → root_of b ≤ 2139095040
        finite (no o) _ = let e : root_of b ≡ b = s.zeros (omega arith) in omega arith
        finite (yes o) (yes u) = let e : root_of b < 2139095040 = (s.root o u).0 in omega arith
        finite (yes o) (no u) = let e : root_of b ≡ b = s.infinity (omega arith) in omega arith
    go (no k) = large (omega arith) (dec_lt b 2147483648)
