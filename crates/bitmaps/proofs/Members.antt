-- What a set holds after each operation, for a reader; and that sets of words are known by what they hold. Assumes nothing.
use Prim.Native.Nat.{ℕ, zero, suc, ◌+◌, ◌-◌, ◌*◌, ◌/◌, ◌<◌, ◌≤◌, min, max}
use native.Mathlib.Nat.{zero-div}
use native.Mathlib.Omega.{arith}
use mathlib.Core.Bool.{false, not, ◌&&◌, ◌||◌, xor}
use mathlib.Core.Path.{◌≡◌, refl, ap, sym, ◌∙◌}
use mathlib.Core.Logic.{⊎_elim}
use mathlib.Core.List.{List}
use lib.Dec.{eqb}
use lib.Pow.{pow_pos}
use lib.ListN.{length, get_or}
use lib.Seq.{ext_get_or}
use borrow.Author.Tests.{eq-eqb, ne_eqb}
use Rattle.bitmaps.specs.Words.{has, holds, union, exclusive, without, shared, inserted, empty}
use Rattle.bitmaps.proofs.Digits.{Words, digit_lt, digit_ext, has_union, has_shared, has_exclusive, has_without}
use Rattle.bitmaps.proofs.Rising.{le_or_lt, has_at, has_inserted, has_kept}

-- what holds of the digits 0 and 1, in the four ways
each_digit : (P : ℕ → ℕ → Type 0) → P 0 0 → P 0 1 → P 1 0 → P 1 1 → (x y : ℕ) → x < 2 → y < 2 → P x y
each_digit P a b c d zero zero h k = a
each_digit P a b c d zero (suc zero) h k = b
each_digit P a b c d zero (suc (suc y)) h k = absurd (omega arith)
each_digit P a b c d (suc zero) zero h k = c
each_digit P a b c d (suc zero) (suc zero) h k = d
each_digit P a b c d (suc zero) (suc (suc y)) h k = absurd (omega arith)
each_digit P a b c d (suc (suc x)) y h k = absurd (omega arith)

module _ (a b : List ℕ) (same : length a ≡ length b) (i : ℕ) where
  pub holds_union : holds (union a b) i ≡ (holds a i || holds b i)
  holds_union = rw (has_union a b same i) (each_digit (λ x y. eqb (max x y) 1 ≡ (eqb x 1 || eqb y 1)) refl refl refl refl (has a i) (has b i) (digit_lt _ _) (digit_lt _ _))

  pub holds_shared : holds (shared a b) i ≡ (holds a i && holds b i)
  holds_shared = rw (has_shared a b same i) (each_digit (λ x y. eqb (min x y) 1 ≡ (eqb x 1 && eqb y 1)) refl refl refl refl (has a i) (has b i) (digit_lt _ _) (digit_lt _ _))

  pub holds_exclusive : holds (exclusive a b) i ≡ xor (holds a i) (holds b i)
  unfolding xor
  holds_exclusive = rw (has_exclusive a b same i) (each_digit (λ x y. eqb ((x - y) + (y - x)) 1 ≡ xor (eqb x 1) (eqb y 1)) refl refl refl refl (has a i) (has b i) (digit_lt _ _) (digit_lt _ _))

  pub holds_without : Words b → holds (without a b) i ≡ (holds a i && not (holds b i))
  holds_without w = rw (has_without a b same w i) (each_digit (λ x y. eqb (x - y) 1 ≡ (eqb x 1 && not (eqb y 1))) refl refl refl refl (has a i) (has b i) (digit_lt _ _) (digit_lt _ _))

pub holds_inserted : (s : List ℕ) (i j : ℕ) → i < length s * 64 → holds (inserted s i) j ≡ (eqb j i || holds s j)
holds_inserted s i j h = ⊎_elim low (λ (l : i < j). other (omega arith)) (le_or_lt j i)
  where
    other : (j ≡ i → ⊥) → holds (inserted s i) j ≡ (eqb j i || holds s j)
    other n = ap (λ (x : ℕ). eqb x 1) (has_kept s i j h n) ∙ rw (ne_eqb j i n)

    here : i ≤ j → j ≤ i → holds (inserted s i) j ≡ (eqb j i || holds s j)
    here a b =
        let e : j ≡ i = omega arith in
        rw (eq-eqb j i e) (ap (λ (x : ℕ). eqb x 1) (ap (has (inserted s i)) e ∙ has_inserted s i h))

    low : j ≤ i → holds (inserted s i) j ≡ (eqb j i || holds s j)
    low l = ⊎_elim (λ (g : i ≤ j). here g l) (λ (g : j < i). other (omega arith)) (le_or_lt i j)

pub word_empty : (m i : ℕ) → ◌≡◌ {A = ℕ} (get_or (empty m) i 0) 0
word_empty zero i = refl
word_empty (suc m) zero = refl
word_empty (suc m) (suc i) = word_empty m i

pub words_empty : (m : ℕ) → Words (empty m)
words_empty m i = rw (word_empty m i) (pow_pos 64)

pub has_empty : (m i : ℕ) → has (empty m) i ≡ 0
has_empty m i = rw (word_empty m (i / 64), zero-div)

pub holds_empty : (m i : ℕ) → holds (empty m) i ≡ false
holds_empty m i = rw (has_empty m i)

-- words with the same ids are the same, to the last digit
pub same_words : (a b : List ℕ) → length a ≡ length b → Words a → Words b → ((i : ℕ) → has a i ≡ has b i) → a ≡ b
same_words a b l wa wb h =
    ext_get_or 0 a b l (λ q k. digit_ext 64 (get_or a q 0) (get_or b q 0) (wa q) (wb q)
    (λ m n. sym (has_at a q m (q * 64 + m) n refl) ∙ h (q * 64 + m) ∙ has_at b q m (q * 64 + m) n refl))
