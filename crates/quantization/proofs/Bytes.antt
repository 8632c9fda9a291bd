-- Laws of little-endian bytes. Assumes nothing.
use mathlib.Core.Path.{◌≡◌, refl, sym, ap, ◌∙◌, subst}
use mathlib.Core.List.{List, ◌∷◌}
use Prim.Native.Nat.{ℕ, zero, suc, ◌+◌, ◌-◌, ◌*◌, ◌/◌, ◌%◌, ◌^◌, ◌≤◌, ◌<◌}
use native.Mathlib.Nat.{add-zero, sub_self, one-le-pow, pow-suc, pow-le-pow_right, zero-lt-suc, lt_of_lt_of_le, div-lt_iff_lt-mul}
use native.Mathlib.Omega.{arith}
use lib.ListN.{length, get_or, take, drop, set}
use lib.Seq.{sets, get_or-take, get_or-drop}
use lib.Arith.{digits_lt}
use Rattle.quantization.specs.Bytes.{le_bytes, le_word}
use Rattle.quantization.proofs.Sets.{sets_below, sets_above, sets_within}

pub length_le : (size n : ℕ) → length (le_bytes size n) ≡ size
unfolding le_bytes
length_le zero n = refl
length_le (suc size) n = ap suc (length_le size (n / 256))

-- ---- a word is told by its bytes alone

pub word_same : (s t : List ℕ) (i j size : ℕ) → ((m : ℕ) → m < size → get_or s (i + m) 0 ≡ get_or t (j + m) 0) → le_word s i size ≡ le_word t j size
unfolding le_word
word_same s t i j zero h = refl
word_same s t i j (suc size) h =
    let here : get_or s i 0 ≡ get_or t j 0 =
    ap (λ (n : ℕ). get_or s n 0) (sym (add-zero i)) ∙ h 0 (omega arith) ∙ ap (λ (n : ℕ). get_or t n 0) (add-zero j) in
    let rest : le_word s (i + 1) size ≡ le_word t (j + 1) size =
    word_same s t (i + 1) (j + 1) size
    (λ m l.
    let e : i + 1 + m ≡ i + suc m = omega arith in
    let f : j + suc m ≡ j + 1 + m = omega arith in
    ap (λ (n : ℕ). get_or s n 0) e ∙ h (suc m) (omega arith) ∙ ap (λ (n : ℕ). get_or t n 0) f) in
    rw (here, rest)

-- of a part of the bytes
pub word_drop : (s : List ℕ) (k at size : ℕ) → le_word (drop k s) at size ≡ le_word s (k + at) size
word_drop s k at size =
    word_same (drop k s) s at (k + at) size
    (λ m l. let e : k + (at + m) ≡ k + at + m = omega arith in get_or-drop k s (at + m) 0 ∙ ap (λ (n : ℕ). get_or s n 0) e)

pub word_take : (s : List ℕ) (k at size : ℕ) → at + size ≤ k → le_word (take k s) at size ≡ le_word s at size
word_take s k at size h = word_same (take k s) s at at size (λ m l. get_or-take k s (at + m) 0 (omega arith))

-- stores elsewhere don't change it
pub word_below : (s vs : List ℕ) (i at size : ℕ) → at + size ≤ i → le_word (sets s i vs) at size ≡ le_word s at size
word_below s vs i at size h = word_same (sets s i vs) s at at size (λ m l. sets_below s vs i (at + m) 0 (omega arith))

pub word_above : (s vs : List ℕ) (i at size : ℕ) → i + length vs ≤ at → le_word (sets s i vs) at size ≡ le_word s at size
word_above s vs i at size h = word_same (sets s i vs) s at at size (λ m l. sets_above s vs i (at + m) 0 (omega arith))

-- what was stored is read
pub word_within : (s vs : List ℕ) (i size : ℕ) → i + length vs ≤ length s → size ≤ length vs → le_word (sets s i vs) i size ≡ le_word vs 0 size
word_within s vs i size h l =
    word_same (sets s i vs) vs i 0 size
    (λ m k. let e : m ≡ 0 + m = omega arith in sets_within s vs i m 0 h (omega arith) ∙ ap (λ (n : ℕ). get_or vs n 0) e)

-- ---- reading what was written

word_next : (b : ℕ) (s : List ℕ) (at size : ℕ) → le_word (b ∷ s) (suc at) size ≡ le_word s at size
word_next b s at size =
    word_same (b ∷ s) s (suc at) at size (λ m l. let e : suc at + m ≡ suc (at + m) = omega arith in ap (λ (n : ℕ). get_or (b ∷ s) n 0) e)

pub word_of_bytes : (size n : ℕ) → n < 256 ^ size → le_word (le_bytes size n) 0 size ≡ n
unfolding le_bytes le_word
word_of_bytes zero n h = omega arith
word_of_bytes (suc size) n h =
    let below : n / 256 < 256 ^ size = (div-lt_iff_lt-mul (zero-lt-suc 255)).1 (rw pow-suc at h) in
    let rest : le_word (n % 256 ∷ le_bytes size (n / 256)) 1 size ≡ n / 256 = word_next (n % 256) (le_bytes size (n / 256)) 0 size ∙ word_of_bytes size (n / 256) below in
    omega arith

-- get after put
pub word_put : (s : List ℕ) (at size n : ℕ) → at + size ≤ length s → n < 256 ^ size → le_word (sets s at (le_bytes size n)) at size ≡ n
word_put s at size n h l =
    word_within s (le_bytes size n) at size (omega (arith, length_le size n)) (omega (arith, length_le size n)) ∙ word_of_bytes size n l

-- ---- writing, a byte at a time: what is still to be stored

pub put_step : (s : List ℕ) (at size j n : ℕ) → j < size
    → sets (set s (at + j) (n % 256)) (at + (j + 1)) (le_bytes (size - (j + 1)) (n / 256)) ≡ sets s (at + j) (le_bytes (size - j) n)
unfolding le_bytes
put_step s at size j n h =
    let e : size - j ≡ suc (size - (j + 1)) = omega arith in
    let f : at + (j + 1) ≡ suc (at + j) = omega arith in
    rw (e, f)

pub put_end : (s : List ℕ) (at size j n : ℕ) → size ≤ j → sets s (at + j) (le_bytes (size - j) n) ≡ s
unfolding le_bytes
put_end s at size j n h = let e : size - j ≡ 0 = omega arith in rw e

-- ---- reading, from the highest byte down

pub word_step : (s : List ℕ) (at j size : ℕ) → 0 < j → j ≤ size → le_word s (at + (j - 1)) (size - (j - 1)) ≡ get_or s (at + (j - 1)) 0 + 256 * le_word s (at + j) (size - j)
unfolding le_word
word_step s at j size p h =
    let e : size - (j - 1) ≡ suc (size - j) = omega arith in
    let f : at + (j - 1) + 1 ≡ at + j = omega arith in
    ap (le_word s (at + (j - 1))) e ∙ ap (λ (x : ℕ). get_or s (at + (j - 1)) 0 + 256 * le_word s x (size - j)) f

pub word_none : (s : List ℕ) (at size : ℕ) → 0 ≡ le_word s at (size - size)
unfolding le_word
word_none s at size = sym (ap (le_word s at) (sub_self size))

pub word_fits : (r b k : ℕ) → r < 256 ^ k → b < 256 → r * 256 + b < 256 ^ suc k
word_fits r b k h l = subst (λ (x : ℕ). r * 256 + b < x) (sym (pow-suc 256 k)) (digits_lt h l)

pub seven : (r k : ℕ) → r < 256 ^ k → k ≤ 7 → r < 72057594037927936
seven r k h l = lt_of_lt_of_le h (pow-le-pow_right {n = 256} (zero-lt-suc 255) l)

pub pow_some : (k : ℕ) → 0 < 256 ^ k
pow_some k = one-le-pow k 256 (zero-lt-suc 255)

-- ---- the two widths that are read without a loop

pub word_two : (s : List ℕ) (at : ℕ) → le_word s at 2 ≡ get_or s at 0 + 256 * get_or s (at + 1) 0
unfolding le_word
word_two s at = omega arith

pub word_four : (s : List ℕ) (at : ℕ) → le_word s at 4 ≡ get_or s at 0 + 256 * get_or s (at + 1) 0 + 65536 * get_or s (at + 2) 0 + 16777216 * get_or s (at + 3) 0
unfolding le_word
word_four s at =
    let e : at + 1 + 1 ≡ at + 2 = omega arith in
    let f : at + 2 + 1 ≡ at + 3 = omega arith in
    rw (e, f) (omega arith)
