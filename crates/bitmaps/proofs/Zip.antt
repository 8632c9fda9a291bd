-- Operations word by word: one more word, the length, and all words. Over any operation f. Assumes nothing.
use Prim.Native.Nat.{ℕ, zero, suc, ◌+◌, ◌<◌}
use native.Mathlib.Nat.{not-suc-le-zero, le_of_suc-le-suc}
use native.Mathlib.Numerals.{add-one}
use native.Mathlib.Omega.{arith}
use mathlib.Core.Path.{◌≡◌, refl, ap}
use mathlib.Core.List.{List, [], ◌∷◌}
use lib.ListN.{length, get_or, set}
use Rattle.bitmaps.specs.Words.{by_word}

-- the first n words done: where a loop stands
unfoldable pub by_word_to : (ℕ → ℕ → ℕ) → ℕ → List ℕ → List ℕ → List ℕ
by_word_to f zero a b = a
by_word_to f (suc n) [] b = []
by_word_to f (suc n) (x ∷ a) [] = x ∷ a
by_word_to f (suc n) (x ∷ a) (y ∷ b) = f x y ∷ by_word_to f n a b

module _ (f : ℕ → ℕ → ℕ) where
  -- the word that is next is still as it was
  pub by_word_to_at : (n : ℕ) (a b : List ℕ) → get_or (by_word_to f n a b) n 0 ≡ get_or a n 0
  unfolding by_word_to
  by_word_to_at zero a b = refl
  by_word_to_at (suc n) [] b = refl
  by_word_to_at (suc n) (x ∷ a) [] = refl
  by_word_to_at (suc n) (x ∷ a) (y ∷ b) = by_word_to_at n a b

  pub by_word_to_suc : (n : ℕ) (a b : List ℕ) → n < length a → n < length b
      → set (by_word_to f n a b) n (f (get_or a n 0) (get_or b n 0)) ≡ by_word_to f (suc n) a b
  unfolding by_word_to
  by_word_to_suc n [] b h k = absurd (not-suc-le-zero h)
  by_word_to_suc n (x ∷ a) [] h k = absurd (not-suc-le-zero k)
  by_word_to_suc zero (x ∷ a) (y ∷ b) h k = refl
  by_word_to_suc (suc n) (x ∷ a) (y ∷ b) h k = ap (λ (l : List ℕ). f x y ∷ l) (by_word_to_suc n a b (le_of_suc-le-suc h) (le_of_suc-le-suc k))

  -- a turn of the loop
  pub by_word_to_more : (n : ℕ) (a b : List ℕ) → n < length a → n < length b
      → set (by_word_to f n a b) n (f (get_or (by_word_to f n a b) n 0) (get_or b n 0)) ≡ by_word_to f (n + 1) a b
  by_word_to_more n a b h k = rw (add-one, by_word_to_at) (by_word_to_suc n a b h k)

  pub by_word_to_length : (n : ℕ) (a b : List ℕ) → length (by_word_to f n a b) ≡ length a
  unfolding by_word_to
  by_word_to_length zero a b = refl
  by_word_to_length (suc n) [] b = refl
  by_word_to_length (suc n) (x ∷ a) [] = refl
  by_word_to_length (suc n) (x ∷ a) (y ∷ b) = ap suc (by_word_to_length n a b)

  pub by_word_to_all : (a b : List ℕ) → by_word_to f (length a) a b ≡ by_word f a b
  unfolding by_word_to by_word
  by_word_to_all [] b = refl
  by_word_to_all (x ∷ a) [] = refl
  by_word_to_all (x ∷ a) (y ∷ b) = ap (λ (l : List ℕ). f x y ∷ l) (by_word_to_all a b)

  pub by_word_length : (a b : List ℕ) → length (by_word f a b) ≡ length a
  unfolding by_word
  by_word_length [] b = refl
  by_word_length (x ∷ a) [] = refl
  by_word_length (x ∷ a) (y ∷ b) = ap suc (by_word_length a b)

-- the operands the other way round
pub by_word_flip : (f : ℕ → ℕ → ℕ) (a b : List ℕ) → length a ≡ length b → by_word (λ x y. f y x) b a ≡ by_word f a b
unfolding by_word
by_word_flip f [] [] h = refl
by_word_flip f [] (y ∷ b) h = absurd (omega arith)
by_word_flip f (x ∷ a) [] h = absurd (omega arith)
by_word_flip f (x ∷ a) (y ∷ b) h = ap (λ (l : List ℕ). f x y ∷ l) (by_word_flip f a b (omega arith))
