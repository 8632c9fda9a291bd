-- Where every word of the face sets is below 2^64, as any lent word is, so is every word of a union and of the layers. Assumes nothing.
use Prim.Native.Nat.{ℕ, zero, suc, ◌*◌, ◌^◌, ◌<◌}
use native.Mathlib.Omega.{arith}
use mathlib.Core.Path.{◌≡◌, sym, ◌∙◌}
use mathlib.Core.List.{List, [], ◌∷◌, ◌++◌}
use lib.Bits.{bit_or, bit_and, or_lt, and_lt}
use Rattle.std.proofs.lemmas.Nat.{and_le_r}
use lib.ListN.{length, take, drop, length-drop}
use lib.Ieee.{Float}
use lib.Seq.{length-take-le}
use Rattle.bitmaps.specs.Words.{by_word, union, shared}
use Rattle.bitmaps.proofs.Digits.{Words}
use Rattle.bitmaps.proofs.Zip.{by_word_length}
use Rattle.bitmaps.proofs.Members.{words_empty}
use Rattle.counting_bitmap.specs.Layers.{empty, layer, merged, fallen, merged_all}
use Rattle.faces.specs.Slots.{slots}
use Rattle.candidates.specs.Gathering.{face_set, faces_at, joined, union_of, Query, target_on, union_at, unions_from, layers_of}

words_none : Words []
words_none i = omega arith

words_take : (n : ℕ) (a : List ℕ) → Words a → Words (take n a)
words_take zero a h i = words_none i
words_take (suc n) [] h i = words_none i
words_take (suc n) (x ∷ a) h zero = h 0
words_take (suc n) (x ∷ a) h (suc i) = words_take n a (λ k. h (suc k)) i

words_drop : (n : ℕ) (a : List ℕ) → Words a → Words (drop n a)
words_drop zero a h = h
words_drop (suc n) [] h = words_none
words_drop (suc n) (x ∷ a) h = words_drop n a (λ k. h (suc k))

words_append : (a b : List ℕ) → Words a → Words b → Words (a ++ b)
words_append [] b h k i = k i
words_append (x ∷ a) b h k zero = h 0
words_append (x ∷ a) b h k (suc i) = words_append a b (λ j. h (suc j)) k i

words_join : (f : ℕ → ℕ → ℕ) → ((x y : ℕ) → x < 2 ^ 64 → y < 2 ^ 64 → f x y < 2 ^ 64) → (a b : List ℕ) → Words a → Words b → Words (by_word f a b)
unfolding by_word
words_join f p [] b h k i = words_none i
words_join f p (x ∷ a) [] h k i = h i
words_join f p (x ∷ a) (y ∷ b) h k zero = p x y (h 0) (k 0)
words_join f p (x ∷ a) (y ∷ b) h k (suc i) = words_join f p a b (λ j. h (suc j)) (λ j. k (suc j)) i

words_union : (a b : List ℕ) → Words a → Words b → Words (union a b)
words_union = words_join bit_or (or_lt 64)

words_shared : (a b : List ℕ) → Words a → Words b → Words (shared a b)
words_shared = words_join bit_and (and_lt 64)

words_joined : (w : ℕ) (fs s xs : List ℕ) → Words fs → Words s → Words (joined w fs s xs)
unfolding joined
words_joined w fs s [] h k = k
words_joined w fs s (x ∷ xs) h k = words_joined w fs (union s (face_set w fs x)) xs h (words_union s (face_set w fs x) k (words_take w (drop (x * w) fs) (words_drop (x * w) fs h)))

words_merged : (n w : ℕ) (ls c : List ℕ) → Words ls → Words c → Words (merged n w ls c)
unfolding merged
words_merged zero w ls c h k = h
words_merged (suc n) w ls c h k =
    let t = words_take w ls h in
    words_append (union (take w ls) c) (merged n w (drop w ls) (shared (take w ls) c)) (words_union (take w ls) c t k)
    (words_merged n w (drop w ls) (shared (take w ls) c) (words_drop w ls h) (words_shared (take w ls) c t k))

-- a second list's words bound those that both share, where it is as long as the first
words_shared_second : (a b : List ℕ) → length a ≡ length b → Words b → Words (shared a b)
unfolding by_word
words_shared_second [] b e h i = words_none i
words_shared_second (x ∷ a) [] e h i = absurd (omega arith)
words_shared_second (x ∷ a) (y ∷ b) e h zero = omega (arith, and_le_r x y, h 0)
words_shared_second (x ∷ a) (y ∷ b) e h (suc i) = words_shared_second a b (omega arith) (λ j. h (suc j)) i

-- what falls off the layers
pub words_fallen : (n w : ℕ) (ls c : List ℕ) → length ls ≡ n * w → length c ≡ w → Words c → Words (fallen n w ls c)
unfolding fallen
words_fallen zero w ls c e f h = h
words_fallen (suc n) w ls c e f h =
    let l : length (take w ls) ≡ w = length-take-le w ls (omega arith) in
    words_fallen n w (drop w ls) (shared (take w ls) c) (simp length-drop (omega arith)) (by_word_length _ (take w ls) c ∙ l) (words_shared_second (take w ls) c (l ∙ sym f) h)

-- a union of face sets
pub words_of_union : (picks w : ℕ) (fs : List ℕ) (p : List Float) → Words fs → Words (union_of picks w fs p)
unfolding union_of
words_of_union picks w fs p h = words_joined w fs (empty w) (slots picks p) h (words_empty w)

words_at : (q : Query) (b : ℕ) → Words q.faces → Words (union_at q b)
unfolding union_at union_of
words_at q b h =
    let d = length q.target in
    let fs = faces_at q.faces d q.w b in
    words_joined q.w fs (empty q.w) (slots q.picks (target_on q b))
    (words_take (2 * d * q.w) (drop (b * (2 * d * q.w)) q.faces) (words_drop (b * (2 * d * q.w)) q.faces h)) (words_empty q.w)

words_all : (n : ℕ) (q : Query) (m b : ℕ) (ls : List ℕ) → Words q.faces → Words ls → Words (merged_all n q.w ls (unions_from q m b))
unfolding merged_all unions_from
words_all n q zero b ls h k = k
words_all n q (suc m) b ls h k = words_all n q m (suc b) (merged n q.w ls (union_at q b)) h (words_merged n q.w ls (union_at q b) k (words_at q b h))

-- the layers of a search
pub layer_words : (n : ℕ) (q : Query) (j : ℕ) → Words q.faces → Words (layer q.w (layers_of n q) j)
unfolding layers_of
layer_words n q j h =
    words_take q.w (drop (j * q.w) (layers_of n q)) (words_drop (j * q.w) (layers_of n q) (words_all n q n 0 (empty (n * q.w)) h (words_empty (n * q.w))))
