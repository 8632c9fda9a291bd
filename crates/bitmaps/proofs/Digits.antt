-- The digits of a word, of the operations on words, and of the sets. Assumes nothing.
use Prim.Native.Nat.{ℕ, zero, suc, ◌+◌, ◌-◌, ◌/◌, ◌%◌, ◌^◌, ◌<◌, min, max}
use native.Mathlib.Nat.{not-suc-le-zero, le_of_suc-le-suc, pow-suc, mod-lt}
use native.Mathlib.Numerals.{one-add}
use native.Mathlib.Omega.{arith}
use mathlib.Core.Path.{◌≡◌, refl, ap, sym, ◌∙◌}
use mathlib.Core.List.{List, [], ◌∷◌}
use lib.ListN.{length, get_or}
use lib.Pow.{shr-shr}
use lib.Bits.{bit_and, bit_or, bit_xor, differ, and_step, or_step, xor_step, and_shr, or_shr, xor_shr}
use Rattle.bitmaps.specs.Words.{digit, has, word_but, by_word, union, exclusive, without, shared}
-- every element is a word
pub use Rattle.bitmaps.specs.Words.{Words}

pub digit_lt : (a k : ℕ) → digit a k < 2
digit_lt a k = omega arith

pub digit_suc : (a k : ℕ) → digit a (suc k) ≡ digit (a / 2) k
digit_suc a k = rw (← one-add k, ← shr-shr a 1 k)

-- ---- the operations

differ_sub : (x y : ℕ) → differ x y ≡ (x - y) + (y - x)
differ_sub zero y = omega arith
differ_sub (suc x) zero = omega arith
differ_sub (suc x) (suc y) = differ_sub x y ∙ omega arith

pub and_digit : (a b k : ℕ) → digit (bit_and a b) k ≡ min (digit a k) (digit b k)
and_digit a b k = rw and_shr (omega (arith, and_step (a / 2 ^ k) (b / 2 ^ k)))

pub or_digit : (a b k : ℕ) → digit (bit_or a b) k ≡ max (digit a k) (digit b k)
or_digit a b k = rw or_shr (omega (arith, or_step (a / 2 ^ k) (b / 2 ^ k)))

-- the digits differ
pub xor_digit : (a b k : ℕ) → digit (bit_xor a b) k ≡ (digit a k - digit b k) + (digit b k - digit a k)
xor_digit a b k =
    rw xor_shr (omega (arith, xor_step (a / 2 ^ k) (b / 2 ^ k), differ_sub (a / 2 ^ k % 2) (b / 2 ^ k % 2)))

pub not_digit : (n k a : ℕ) → k < n → a < 2 ^ n → digit (2 ^ n - 1 - a) k ≡ 1 - digit a k
not_digit zero k a h l = absurd (not-suc-le-zero h)
not_digit (suc n) zero a h l = omega (arith, pow-suc 2 n)
not_digit (suc n) (suc k) a h l =
    let half : (2 ^ suc n - 1 - a) / 2 ≡ 2 ^ n - 1 - a / 2 = omega (arith, pow-suc 2 n) in
    digit_suc (2 ^ suc n - 1 - a) k ∙ ap (λ (x : ℕ). digit x k) half
    ∙ not_digit n k (a / 2) (le_of_suc-le-suc h) (omega (arith, pow-suc 2 n)) ∙ ap (λ (x : ℕ). 1 - x) (sym (digit_suc a k))

-- ---- two words with the same digits are equal
pub digit_ext : (n a b : ℕ) → a < 2 ^ n → b < 2 ^ n → ((k : ℕ) → k < n → digit a k ≡ digit b k) → a ≡ b
digit_ext zero a b ha hb e = omega arith
digit_ext (suc n) a b ha hb e =
    let r = digit_ext n (a / 2) (b / 2) (omega (arith, pow-suc 2 n)) (omega (arith, pow-suc 2 n))
    (λ k h. sym (digit_suc a k) ∙ e (suc k) (omega arith) ∙ digit_suc b k) in
    omega (arith, e 0 (omega arith))

-- ---- the sets

pub by_word_at : (f : ℕ → ℕ → ℕ) → f 0 0 ≡ 0 → (a b : List ℕ) → length a ≡ length b → (i : ℕ) → get_or (by_word f a b) i 0 ≡ f (get_or a i 0) (get_or b i 0)
unfolding by_word
by_word_at f z [] [] h i = sym z
by_word_at f z [] (y ∷ b) h i = absurd (omega arith)
by_word_at f z (x ∷ a) [] h i = absurd (omega arith)
by_word_at f z (x ∷ a) (y ∷ b) h zero = refl
by_word_at f z (x ∷ a) (y ∷ b) h (suc i) = by_word_at f z a b (omega arith) i

pub has_union : (a b : List ℕ) → length a ≡ length b → (i : ℕ) → has (union a b) i ≡ max (has a i) (has b i)
has_union a b h i = rw (by_word_at bit_or refl a b h) (or_digit _ _ _)

pub has_shared : (a b : List ℕ) → length a ≡ length b → (i : ℕ) → has (shared a b) i ≡ min (has a i) (has b i)
has_shared a b h i = rw (by_word_at bit_and refl a b h) (and_digit _ _ _)

pub has_exclusive : (a b : List ℕ) → length a ≡ length b → (i : ℕ) → has (exclusive a b) i ≡ (has a i - has b i) + (has b i - has a i)
has_exclusive a b h i = rw (by_word_at bit_xor refl a b h) (xor_digit _ _ _)

pub has_without : (a b : List ℕ) → length a ≡ length b → Words b → (i : ℕ) → has (without a b) i ≡ has a i - has b i
has_without a b h w i =
    rw (by_word_at word_but refl a b h, and_digit, not_digit 64 (i % 64) (get_or b (i / 64) 0) (mod-lt i (omega arith)) (w (i / 64))) (omega arith)
