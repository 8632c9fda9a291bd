-- The number of ids of a set. Assumes nothing.
use Prim.Native.Nat.{ℕ, zero, suc, ◌+◌, ◌*◌, ◌/◌, ◌%◌, ◌^◌, ◌<◌, ◌≤◌}
use native.Mathlib.Nat.{pow-suc, suc-mul, add_comm, suc-add}
use native.Mathlib.Numerals.{add-one}
use native.Mathlib.Omega.{arith}
use mathlib.Core.Path.{◌≡◌, refl, ap, ap₂, sym, ◌∙◌}
use mathlib.Core.List.{List, [], ◌∷◌, ◌++◌}
use lib.Dec.{eqb}
use borrow.Author.Tests.{ne_eqb}
use Rattle.std.specs.List.{list_all}
use lib.ListN.{length, get_or, drop}
use lib.Seq.{drop-cons}
use lib.Count.{ones, ones_step, ones-le}
use lib.Arith.{bin_ind}
use lib.Bits.{bit_and, bit_or, and_shr, or_shr, and_step, or_step}
use Rattle.bitmaps.specs.Words.{size, is_empty, empty, sum_to, digit, has, by_word, union, shared}
use Rattle.bitmaps.proofs.Digits.{Words, digit_suc}

-- the words from i on: the word at i, and the words from i + 1 on
pub size_drop : (a : List ℕ) (i : ℕ) → i < length a → size (drop i a) ≡ ones (get_or a i 0) + size (drop (i + 1) a)
unfolding size
size_drop a i h = rw (add-one, drop-cons a i 0 h)

-- a word without a digit is 0
pub ones_none : (n : ℕ) → ones n ≡ 0 → n ≡ 0
ones_none = bin_ind (λ (n : ℕ). ones n ≡ 0 → n ≡ 0) (λ e. refl) (λ n ih e. let r : n / 2 ≡ 0 = ih (omega (arith, ones_step n)) in omega (arith, ones_step n))

-- a set is empty where every word is 0
pub all_none : (a : List ℕ) → is_empty a ≡ list_all (λ w. eqb w 0) a
unfolding size ones
all_none [] = refl
all_none (zero ∷ a) = ap (λ (n : ℕ). eqb n 0) (omega arith) ∙ all_none a
all_none (suc x ∷ a) = rw (ne_eqb (suc x) 0 (omega arith)) (ne_eqb _ _ (λ e. absurd (omega (arith, ones_none (suc x) (omega arith)))))

-- ---- sums

pub sum_ext : (n : ℕ) (f g : ℕ → ℕ) → ((i : ℕ) → i < n → f i ≡ g i) → sum_to n f ≡ sum_to n g
unfolding sum_to
sum_ext zero f g h = refl
sum_ext (suc n) f g h = ap₂ (λ (x y : ℕ). x + y) (h 0 (omega arith)) (sum_ext n (λ i. f (suc i)) (λ i. g (suc i)) (λ i l. h (suc i) (omega arith)))

pub sum_add : (m n : ℕ) (f : ℕ → ℕ) → sum_to (m + n) f ≡ sum_to m f + sum_to n (λ i. f (m + i))
unfolding sum_to
sum_add zero n f =
    let z : 0 + n ≡ n = omega arith in
    rw z (sum_ext n f (λ i. f (0 + i)) (λ i l. ap f (omega arith)) ∙ omega arith)
sum_add (suc m) n f =
    rw suc-add (ap (λ (x : ℕ). f 0 + x) (sum_add m n (λ i. f (suc i)))
    ∙ ap (λ (x : ℕ). f 0 + (sum_to m (λ i. f (suc i)) + x)) (sum_ext n (λ i. f (suc (m + i))) (λ i. f (suc m + i)) (λ i l. ap f (omega arith)))
    ∙ omega arith)

-- ---- a set's size is the number of its ids

pub ones_digits : (k x : ℕ) → x < 2 ^ k → ones x ≡ sum_to k (digit x)
unfolding sum_to ones
ones_digits zero x h = let z : x ≡ 0 = omega arith in rw z
ones_digits (suc k) x h =
    ones_step x ∙ ap₂ (λ (a b : ℕ). a + b) (omega arith)
    (ones_digits k (x / 2) (omega (arith, pow-suc 2 k)) ∙ sum_ext k (digit (x / 2)) (λ i. digit x (suc i)) (λ i l. sym (digit_suc x i)))

pub has_head : (x : ℕ) (a : List ℕ) (i : ℕ) → i < 64 → has (x ∷ a) i ≡ digit x i
has_head x a i h =
    let q : i / 64 ≡ 0 = omega arith in
    let r : i % 64 ≡ i = omega arith in
    rw (q, r)

pub has_tail : (x : ℕ) (a : List ℕ) (i : ℕ) → has (x ∷ a) (64 + i) ≡ has a i
has_tail x a i =
    let q : (64 + i) / 64 ≡ suc (i / 64) = omega arith in
    let r : (64 + i) % 64 ≡ i % 64 = omega arith in
    rw (q, r)

pub size_has : (a : List ℕ) → Words a → size a ≡ sum_to (length a * 64) (has a)
unfolding size sum_to
size_has [] w = refl
size_has (x ∷ a) w =
    rw (suc-mul, add_comm (length a * 64) 64) (
    ap₂ (λ (p q : ℕ). p + q)
    (ones_digits 64 x (w 0) ∙ sum_ext 64 (digit x) (has (x ∷ a)) (λ i l. sym (has_head x a i l)))
    (size_has a (λ i. w (suc i)) ∙ sum_ext (length a * 64) (has a) (λ i. has (x ∷ a) (64 + i)) (λ i l. sym (has_tail x a i)))
    ∙ sym (sum_add 64 (length a * 64) (has (x ∷ a))))

-- ---- a union and what is shared

ones_or_and : (a b : ℕ) → ones (bit_or a b) + ones (bit_and a b) ≡ ones a + ones b
ones_or_and =
    bin_ind (λ (n : ℕ). (b : ℕ) → ones (bit_or n b) + ones (bit_and n b) ≡ ones n + ones b)
    (λ b. add_comm (ones b) (ones 0))
    (λ n ih b.
    let o = ones_step (bit_or n b) ∙ ap (λ (x : ℕ). bit_or n b % 2 + ones x) (or_shr n b 1) in
    let d = ones_step (bit_and n b) ∙ ap (λ (x : ℕ). bit_and n b % 2 + ones x) (and_shr n b 1) in
    let r = ih (b / 2) in
    omega (arith, o, d, r, ones_step n, ones_step b, or_step n b, and_step n b))

pub size_union : (a b : List ℕ) → length a ≡ length b → size (union a b) + size (shared a b) ≡ size a + size b
unfolding size by_word
size_union [] [] h = refl
size_union [] (y ∷ b) h = absurd (omega arith)
size_union (x ∷ a) [] h = absurd (omega arith)
size_union (x ∷ a) (y ∷ b) h = omega (arith, ones_or_and x y, size_union a b (omega arith))

pub size_append : (a b : List ℕ) → size (a ++ b) ≡ size a + size b
unfolding size
size_append [] b = omega arith
size_append (x ∷ a) b = ap (λ (y : ℕ). ones x + y) (size_append a b) ∙ omega arith

pub size_le : (a : List ℕ) → Words a → size a ≤ 64 * length a
unfolding size
size_le [] w = omega arith
size_le (x ∷ a) w = omega (arith, ones-le 64 x (w 0), size_le a (λ i. w (suc i)))

pub size_empty : (m : ℕ) → size (empty m) ≡ 0
unfolding size ones
size_empty zero = refl
size_empty (suc m) = omega (arith, size_empty m)
